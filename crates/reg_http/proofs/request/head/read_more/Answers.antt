use Rattle.reg_http.proofs.FillLemmas.{Adds-put_mid}
use Rattle.reg_http.proofs.request.head.read_more.Goals as goal

pub returns-in-Ok-clause-filled : goal.returns-in-Ok-clause-filled
returns-in-Ok-clause-filled g c =
    let read = c.in-Ok.ensures in
    Adds-put_mid _ _ c.args.buf.now c.read.new.buf c.args.filled c.in-Ok.count c.requires c.read.auto.buf
    read.bound.0 read.bytes.0 read.bytes.1
