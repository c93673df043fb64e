use Rattle.std.proofs.Common.{map, ap, ◌∙◌, codes}
use Rattle.ags_rows.specs.Contents.{place_in}
use Rattle.ags_dict.specs.Entries.{keys_of}
use Rattle.ags_links.specs.Families.{record_links}
use Rattle.ags_links.proofs.Heading.{places_named}
use Rattle.ags_links.proofs.Kept.{texts}
use Rattle.ags_links.proofs.families.family_of.Goals as goal

pub returns : goal.returns
returns c =
    let group = c.args.group.now in
    let stood = c.in_ok-headings.ensures ∙ c.as_slice.ensures in
    let keys = c.in_ok-key_headings.ensures ∙ c.in_ok-listed.ensures ∙ ap (keys_of c.args.dictionary.now) c.as_slice-2.ensures in
    record {
      headings = stood;
      key_headings = keys;
      keys = c.in_ok-keys.ensures ∙ places_named c.in_ok-headings.headings c.names.result.now ∙ ap (λ hs. map (place_in hs) (texts c.names.result.now)) stood ∙ ap (map (place_in group.headings)) (c.names.ensures ∙ keys);
      file_set = c.find-file_set.ensures ∙ ap (λ hs. place_in hs (codes "FILE_FSET")) stood;
      links = c.in_ok-links.ensures ∙ ap (λ hs. map (place_in hs) (record_links hs group.types)) stood;
    }
