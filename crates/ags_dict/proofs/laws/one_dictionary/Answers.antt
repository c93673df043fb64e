use Rattle.std.proofs.Common.{◌≡◌, ℕ, List, Bool, true, false, sym, ap, ◌∙◌}
use Rattle.ags_rows.specs.Contents.{Contents, contents_of}
use Rattle.ags_rows.proofs.Lemmas.{one_loose_grouping}
use Rattle.ags_dict.specs.Entries.{has_dict, lacks_heading, entries_of_file}
use Rattle.ags_dict.specs.Reading.{HasContents}
use Rattle.ags_dict.proofs.laws.one_dictionary.Goals as goal

-- a file has one list of contents
one_contents : (bytes : List ℕ) (contents others : List Contents) → HasContents bytes contents → HasContents bytes others → contents ≡ others
one_contents bytes contents others h g = h.2 ∙ ap contents_of (one_loose_grouping bytes h.0 g.0 h.1 g.1) ∙ sym g.2

-- a test of them has one answer
one_answer : (bytes : List ℕ) (test : List Contents → Bool) (contents others : List Contents) → HasContents bytes contents → HasContents bytes others
    → test contents ≡ true → test others ≡ false → ⊥
one_answer bytes test contents others h g passes fails = let clash : true ≡ false = sym passes ∙ ap test (one_contents bytes contents others h g) ∙ fails in cc

pub returns : goal.returns
returns c = (
  λ bytes entries others h g. h.4 ∙ ap entries_of_file (one_contents bytes h.0 g.0 h.1 g.1) ∙ sym g.4,
  λ bytes entries h g. one_answer bytes has_dict h.0 g.0 h.1 g.1 h.2 g.2,
  λ bytes entries h g. one_answer bytes lacks_heading g.0 h.0 g.1 h.1 g.3 h.3,
  λ bytes h g. one_answer bytes has_dict g.0 h.0 g.1 h.1 g.2 h.2,
)
