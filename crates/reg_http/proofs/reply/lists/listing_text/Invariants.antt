use Rattle.std.proofs.Common.{◌≡◌, List, codes, take}
use Rattle.std.specs.List.{AllZip}
use Rattle.serde_json.specs.Data.{Data}
use Rattle.reg_http.specs.Bodies.{IsListedData}
use Rattle.reg_http.proofs.SendingLemmas.{list_front}
use Rattle.reg_http.proofs.reply.lists.listing_text.Given as goal

abbrev pub invariant-loop-place : goal.invariant-loop-place
invariant-loop-place l = (ds : List Data) × AllZip IsListedData (take l.place l.listing) ds × (l.out.items ≡ list_front (codes "deposits") ds)
