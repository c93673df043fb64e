use Rattle.ags_links.specs.KeyTexts.{byte_text}
use Rattle.ags_links.proofs.Growing.{grow_more}
use Rattle.ags_links.proofs.texts.push_bytes.Goals as goal

pub loop-byte-preserved : goal.loop-byte-preserved
loop-byte-preserved c =
    grow_more byte_text c.args.out.now.items c.loop-byte.out.items c.push_marked.new.out.items c.args.text.now c.loop-byte.byte-index 0 c.loop-byte-test.true c.loop-byte.invariant c.in_ok-push_marked.ensures
