-- What the accessors of a value say of the keys of a table.
use Rattle.std.proofs.Common.{◌≡◌, ℕ, List, Option, Some, None, Ok, Err, Bor, IsTrue, ℤ, refl, sym, ap, subst}
use Rattle.toml.specs.Data.{Data, string, as_str}
use Rattle.reg_policy.specs.Days.{Writes, is_day_number}
use Rattle.reg_policy.specs.Rules.{IsDayAt}
use Rattle.reg_policy.specs.Readers.{GivesText}
use Rattle.reg_policy.specs.declared.error.ReadError.TheVariants.{BadValue}

text_in : (d : Data) (t : Bor (List ℕ)) → as_str d ≡ Some t.now → GivesText (Some d) (Ok (Some t))
text_in (string s) t e = let f : s ≡ t.now = cc in (ap Some (sym f), refl)
text_in d t e = cc

no_text_in : (d : Data) → as_str d ≡ None → GivesText (Some d) (Err BadValue)
no_text_in (string s) e = cc
no_text_in d e = refl

pub text_some : (o : Option Data) (d : Data) (t : Bor (List ℕ)) → Some d ≡ o → as_str d ≡ Some t.now → GivesText o (Ok (Some t))
text_some o d t e f = rw (← e) (text_in d t f)

pub text_bad : (o : Option Data) (d : Data) → Some d ≡ o → as_str d ≡ None → GivesText o (Err BadValue)
text_bad o d e f = rw (← e) (no_text_in d f)

pub text_none : (o : Option Data) → None ≡ o → GivesText o (Ok None)
text_none o e = rw (← e) refl

-- a text that writes a day
pub day_some : (o : Option Data) (t : Bor (List ℕ)) (day : ℤ) → GivesText o (Ok (Some t)) → Writes t.now day × IsTrue (is_day_number day)
    → IsDayAt o (Some day)
day_some (Some (string s)) t day h w =
    let same : t.now ≡ s = cc in
    subst (λ z. Writes z day × IsTrue (is_day_number day)) same w
day_some o t day h w = cc
