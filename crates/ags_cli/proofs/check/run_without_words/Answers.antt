use Rattle.std.proofs.Common.{[], ap, arith, subst, sym, ◌∙◌}
use Rattle.ags_dict.specs.Mini.{mini_entries}
use Rattle.ags_cli.specs.Checking.{ChecksStream}
use Rattle.ags_cli.specs.Faults.{is_stream}
use Rattle.ags_cli.proofs.Answering.{fault_answers, fault_fails, no_memory_on}
use Rattle.ags_cli.proofs.Taking.{takes_none}
use Rattle.ags_cli.proofs.check.run_without_words.Goals as goal

pub returns-in-Ok : goal.returns-in-Ok
returns-in-Ok g c =
    let new = c.check_stream.new in
    subst (λ entries. ChecksStream g.R.Read g.W.Write g.E.Write entries c.args.input.now new.input
    c.args.out.now new.out c.args.err.now new.err c.check_stream.result)
    c.in-Ok.ensures c.check_stream.ensures

pub returns-in-Err : goal.returns-in-Err
returns-in-Err g c =
    let read = c.requires.0 ∙ ap is_stream (sym c.from.ensures) in
    record {
      failed = fault_fails _ _ _ _ _ _ c.from.result _ read c.requires.1 c.requires.2 c.tell.ensures;
      taken = record { taken = []; few = omega arith; first = takes_none _ };
      answers = fault_answers mini_entries _ _ _ _ c.from.result _ _ _ _ _ read c.requires.1 c.requires.2
          (no_memory_on mini_entries _ c.from.result c.from.ensures) c.tell.ensures;
    }
