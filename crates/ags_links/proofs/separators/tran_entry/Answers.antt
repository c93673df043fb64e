use Rattle.std.proofs.Common.{◌≡◌, ◌∙◌, ap, sym, refl, List, [], ◌∷◌, Option, Some, Bool, true, false, cond, option_copied, codes}
use Rattle.std.specs.List.{find}
use Rattle.std.specs.Option.{option_map}
use Rattle.std.specs.Str.{bytes_eq}
use Rattle.ags_rows.specs.declared.rows.Group.{Group}
use Rattle.ags_rows.specs.Contents.{Contents, group_contents, contents_of}
use Rattle.ags_links.specs.RecordLinks.{first_entry, tran_of}
use Rattle.ags_links.proofs.separators.tran_entry.Goals as goal

abbrev is_tran : Group → Bool
is_tran group = bytes_eq group.name (codes "TRAN")

found_by : (t : Bool) (x : Group) (here : Option Contents) (there : Option Group) → here ≡ option_map group_contents there
    → cond t (Some (group_contents x)) here ≡ option_map group_contents (cond t (Some x) there)
found_by true x here there e = refl
found_by false x here there e = e

-- TRAN among the contents is the contents of TRAN
found_tran : (groups : List Group) → tran_of (contents_of groups) ≡ option_map group_contents (find is_tran groups)
found_tran [] = refl
found_tran (g ∷ groups) = found_by (is_tran g) g (tran_of (contents_of groups)) (find is_tran groups) (found_tran groups)

pub returns-in-Some : goal.returns-in-Some
returns-in-Some c =
    c.first_entry.ensures
    ∙ ap (λ o. first_entry o c.args.heading.now) (sym (found_tran c.args.groups.now ∙ ap (option_map group_contents) (sym c.tran.ensures ∙ ap option_copied c.in-Some.is)))

pub returns-in-None : goal.returns-in-None
returns-in-None c =
    ap (λ o. first_entry o c.args.heading.now) (sym (found_tran c.args.groups.now ∙ ap (option_map group_contents) (sym c.tran.ensures ∙ ap option_copied c.in-None.is)))
