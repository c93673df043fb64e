use Rattle.std.proofs.Common.{subst}
use Rattle.std.specs.Prelude.{⊤, IfOk}
use Rattle.reg_store.specs.Deposit.{sents}
use Rattle.reg_store.specs.Keep.{OfDeposit}
use Rattle.reg_store.specs.Plain.{deposits_of, dictionary_of}
use Rattle.reg_store.specs.Reading.{HasProjectRows}
use Rattle.reg_store.specs.declared.plain.PlainKeep.{PlainKeep}
use Rattle.reg_desk_tests.proofs.tests.refusing.RefusingKeep.project_rows.Goals as goal

pub returns-clause-read : goal.returns-clause-read
returns-clause-read c =
    subst (λ (keep : PlainKeep). ⊤ → IfOk c.project_rows.result (λ found. OfDeposit (dictionary_of keep) (sents (deposits_of keep)) c.args.n (HasProjectRows found)))
    c.fails.ensures.keep c.project_rows.ensures.read
