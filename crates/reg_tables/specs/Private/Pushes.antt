-- How numbers compare as values of the database.
use Rattle.std.proofs.Common.{◌≡◌, ◌≢◌, ℕ, pos, true, false, ap, ◌∙◌, arith}
use Rattle.std.specs.Ordering.{is_eq}
use Rattle.std.proofs.lemmas.Int.{ints}
use Rattle.std.proofs.lemmas.Bool.Decides.{nat_tests}
use Rattle.sqlite_value.proofs.OrderLemmas.{value_cmp-Int}
use Rattle.sqlite.specs.declared.types.Value.TheVariants.{Int}
use Rattle.sqlite.specs.Order.{value_cmp}

pub equal_at : (n : ℕ) → is_eq (value_cmp (Int (pos n)) (Int (pos n))) ≡ true
equal_at n = ap is_eq (value_cmp-Int (pos n) (pos n)) ∙ grind (arith, ints, nat_tests)

pub apart_at : (m n : ℕ) → m ≢ n → is_eq (value_cmp (Int (pos m)) (Int (pos n))) ≡ false
apart_at m n differ = ap is_eq (value_cmp-Int (pos m) (pos n)) ∙ grind (arith, ints, nat_tests)
