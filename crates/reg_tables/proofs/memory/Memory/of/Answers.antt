use Rattle.std.proofs.Common.{◌≡◌, ◌+◌, ◌<◌, ◌≤◌, suc, List, Bool, Some, false, get_or, length, slice_get, take, refl, sym, ap, subst, ◌∙◌, arith}
use Rattle.std.proofs.Math.ListN.{set}
use Rattle.std.proofs.lemmas.List.{length-map, take_all}
use Rattle.std.proofs.lemmas.Option.{slice_get-get_or, slice_get_read}
use Rattle.reg_tables.specs.Private.Memory.{AreKnown}
use Rattle.reg_tables.specs.Register.{marks_of}
use Rattle.reg_tables.proofs.Known.{marked_as, with_marks}
use Rattle.reg_tables.proofs.MemoryLemmas.{known_marked, marks_long, marks_more}
use Rattle.reg_tables.proofs.memory.Memory.of.Goals as goal

pub loop-at-preserved : goal.loop-at-preserved
loop-at-preserved c =
    let marks = c.args.marks.now in
    let found = c.args.found.known.items in
    let known = c.loop-at.known.items in
    let at = c.loop-at.at in
    let was = c.loop-at.invariant in
    let one = c.index_mut.result.now in
    let mark = get_or marks at false in
    let long : length known ≡ length found = ap length was ∙ marks_long (take at marks) found in
    let low : at < length known = omega (arith, long, c.loop-at-test.true) in
    let here : slice_get known at ≡ Some one = slice_get_read known (length known) at one refl low c.index_mut.ensures.value in
    let there : slice_get marks at ≡ Some mark = slice_get-get_or marks at false (omega (arith, c.requires.marks, long, low)) in
    let e : suc at ≡ at + 1 = omega arith in
    ap (λ all. set all at (marked_as one mark)) was ∙ marks_more marks found at mark one there (subst (λ all. slice_get all at ≡ Some one) was here)
    ∙ ap (λ n. with_marks (take n marks) found) e

pub returns-clause-agrees : goal.returns-clause-agrees
returns-clause-agrees c = λ dictionary list are marks digested below.
    let found = c.args.found.known.items in
    let at = c.loop-at.at in
    let long : length found ≡ length list = sym c.requires.marks ∙ ap length marks ∙ length-map list (λ d. d.withdrawn) in
    let end : length c.args.marks.now ≤ at = omega (arith, c.loop-at-test.false, c.len-at-end.ensures, c.requires.marks) in
    let all : c.loop-at.known.items ≡ with_marks (marks_of list) found = c.loop-at.invariant ∙ ap (λ (ms : List Bool). with_marks ms found) (take_all at c.args.marks.now end ∙ marks) in
    record {
      known = subst (AreKnown dictionary list) (sym all) (known_marked dictionary list found long are);
      digests = digested;
      below = below;
    }
