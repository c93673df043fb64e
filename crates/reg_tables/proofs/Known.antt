-- What is known of deposits with marks, and what of it is a deposit.
use Rattle.std.proofs.Common.{Bool, List, [], ◌∷◌}
use Rattle.reg_store.specs.Sent.{Sent}
use Rattle.reg_tables.specs.declared.memory.Known.{Known}
use Rattle.reg_tables.specs.Private.Memory.{with_mark}

-- what is known of a deposit, with the mark
abbrev pub marked_as : Known → Bool → Known
marked_as one mark = record { head = with_mark one.head mark; file = one.file }

-- what is known of deposits, of which the first have these marks
abbrev pub with_marks : List Bool → List Known → List Known
with_marks [] known = known
with_marks (mark ∷ marks) [] = []
with_marks (mark ∷ marks) (one ∷ known) = marked_as one mark ∷ with_marks marks known

-- a deposit of the head that is known, without bytes
abbrev pub bare_of : Known → Sent
bare_of one = record { firm = one.head.firm; project = one.head.project; embargo = one.head.embargo; bytes = [] }
