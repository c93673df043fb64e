-- Which texts are names of firms, roles and projects, which are tokens, and the words of the verbs.
use Rattle.std.specs.Prelude.{ℕ, List, nat_le, Bool, ◌&&◌, ◌||◌, ◌==◌, codes}
use Rattle.std.specs.Char.{is_ascii_alphanumeric}
use Rattle.std.specs.List.{list_all}
use Rattle.ags_text.specs.Bytes.{low_line}
use Rattle.ags_text.specs.Names.{is_within}
use Rattle.reg_policy.specs.declared.subject.Verb.{Verb}
use Rattle.reg_policy.specs.declared.subject.Verb.TheVariants.{Deposit, Check, List as ListDeposits, Extract, Withdraw, See}

-- `-`
abbrev pub hyphen : ℕ
hyphen = 45

-- a letter, a digit, `-` or `_`
abbrev pub is_name_byte : ℕ → Bool
is_name_byte b = is_ascii_alphanumeric b || b == hyphen || b == low_line

-- A name of a firm, a role or a project: 1 to 32 letters, digits, `-` and `_`.
abbrev pub is_name : List ℕ → Bool
is_name text = is_within 32 text && list_all is_name_byte text

-- `!` to `~`, the characters that show
abbrev pub first_visible : ℕ
first_visible = 33

abbrev pub last_visible : ℕ
last_visible = 126

abbrev pub is_token_byte : ℕ → Bool
is_token_byte b = nat_le first_visible b && nat_le b last_visible

-- A token: 1 to 64 characters, each from `!` to `~`.
abbrev pub is_token : List ℕ → Bool
is_token text = is_within 64 text && list_all is_token_byte text

-- the word of a verb
abbrev pub verb_text : Verb → List ℕ
verb_text Deposit = codes "deposit"
verb_text Check = codes "check"
verb_text ListDeposits = codes "list"
verb_text Extract = codes "extract"
verb_text Withdraw = codes "withdraw"
verb_text See = codes "see"
