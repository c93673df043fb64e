-- What a clause reads of a `Watched`.
use Rattle.std.specs.Prelude.{◌≡◌, Bool, false}
use Rattle.ags_cli.specs.declared.watched.Watched.{Watched}

-- what it watches
abbrev pub inner_of : {T : Type 0} → Watched T → T
inner_of watched = watched.inner

-- whether a call of it has failed
abbrev pub has_failed : {T : Type 0} → Watched T → Bool
has_failed watched = watched.failed

-- no call of a reader and of two writers has failed
abbrev pub HaveNotFailed : {R W E : Type 0} → Watched R → Watched W → Watched E → Type 0
HaveNotFailed input out err = (has_failed input ≡ false) × (has_failed out ≡ false) × (has_failed err ≡ false)
