use Rattle.std.proofs.Common.{ℕ, List, Err, ap, subst, ◌∙◌}
use Rattle.ags_check.specs.Findings.{Findings}
use Rattle.reg_store.specs.Keep.{sent_of}
use Rattle.reg_store.proofs.PlainLemmas.{fit_is_clean, fit_is_readable, fit_is_short}
use Rattle.reg_store.proofs.plain.recheck.Goals as goal

pub check-requires : goal.check-requires
check-requires c = rw c.as_slice.ensures (fit_is_readable c.args.dictionary.now (sent_of c.args.kept.now) c.requires)

pub returns-in-Ok : goal.returns-in-Ok
returns-in-Ok c = record {
  given = c.in-Ok.ensures.given;
  bytes = c.in-Ok.ensures.bytes ∙ c.as_slice.ensures;
  clean = c.in-Ok.ensures.clean;
  short = fit_is_short c.args.dictionary.now (sent_of c.args.kept.now) c.requires;
}

-- a fit deposit has no findings
pub unreachable-requires : goal.unreachable-requires
unreachable-requires c =
    let found = c.in-Err-Findings.field-0-0 in
    let h = c.in-Err-Findings.ensures.findings found (ap Err c.in-Err-Findings.field-0-is) in
    fit_is_clean c.args.dictionary.now (sent_of c.args.kept.now) found c.requires (subst (λ (bytes : List ℕ). Findings c.args.dictionary.now bytes found) c.as_slice.ensures h.0) h.1
