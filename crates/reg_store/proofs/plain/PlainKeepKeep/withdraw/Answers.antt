use Rattle.std.proofs.Common.{ℕ, ◌-◌, ◌≤◌, inr, refl, sym, subst, ◌∙◌}
use Rattle.std.proofs.lemmas.List.{length-set}
use Rattle.reg_store.proofs.PlainLemmas.{kept_withdrawn, withdrawn_fit}
use Rattle.reg_store.proofs.plain.PlainKeepKeep.withdraw.Goals as goal

pub invariant_of-self-clause-within : goal.invariant_of-self-clause-within
invariant_of-self-clause-within c =
    let keep = c.args.self.now in
    subst (λ (m : ℕ). m ≤ keep.limit) (sym (length-set keep.kept.items (c.args.n - 1) _)) keep.within

pub invariant_of-self-clause-fit : goal.invariant_of-self-clause-fit
invariant_of-self-clause-fit c =
    let keep = c.args.self.now in
    withdrawn_fit keep.dictionary keep.kept.items _ c.args.n (kept_withdrawn keep.kept.items c.args.n c.index_mut-kept.result.now _ (c.requires.number tt).0 c.index_mut-kept.ensures.value refl) keep.fit

pub returns-clause-leaves : goal.returns-clause-leaves
returns-clause-leaves c =
    let keep = c.args.self.now in
    let next = kept_withdrawn keep.kept.items c.args.n c.index_mut-kept.result.now _ (c.requires.number tt).0 c.index_mut-kept.ensures.value refl in
    record {
      sound = λ _. tt;
      same_dictionary = refl;
      same_limit = refl;
      failing = refl;
      added = λ _. next;
      refused = λ _ _. tt;
      same_text = λ _ _. refl;
      crash = λ _ bytes list left. inr (left.0, left.1 ∙ next);
      whole = λ _ broken. broken;
    }
