use Rattle.std.proofs.Common.{◌≡◌, true, false, sym, ◌∙◌, List, Bool, ℕ}
use Rattle.std.specs.List.{list_any}
use Rattle.ags_dict.specs.declared.entries.HeadingEntry.{HeadingEntry}
use Rattle.ags_dict.specs.Entries.{same_heading}
use Rattle.ags_dict.specs.Index.{is_heading}
use Rattle.ags_dict.proofs.FirstOfEach.{restated, fresh}
use Rattle.ags_dict.proofs.headings.HeadingEntries.with_new.Goals as goal

-- whether the entries have one for the group and the heading that are seen of an entry
had : (entries : List HeadingEntry) (e : HeadingEntry) (group heading : List ℕ) (b has : Bool) → group ≡ e.group → heading ≡ e.heading → has ≡ list_any (is_heading group heading) entries → has ≡ b
    → list_any (same_heading e) entries ≡ b
had entries e group heading b has at named h is = rw (at, named) at (sym h) ∙ is

pub returns-then-has : goal.returns-then-has
returns-then-has c =
    restated same_heading c.args.self c.args.entry
    (had c.args.self c.args.entry c.as_slice.result.now c.as_slice-2.result.now true c.has.result c.as_slice.ensures c.as_slice-2.ensures c.has.ensures c.if-has.true)

pub returns : goal.returns
returns c =
    let found : list_any (same_heading c.args.entry) c.args.self ≡ false =
    had c.args.self c.args.entry c.as_slice.result.now c.as_slice-2.result.now false c.has.result c.as_slice.ensures c.as_slice-2.ensures c.has.ensures c.if-has.false in
    fresh same_heading c.self.inside.shared.value c.self.inside.own _ c.args.self c.args.entry found c.in_ok-own.ensures c.self.view_is
