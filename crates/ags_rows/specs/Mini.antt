-- What MINI, the dictionary of this project, says: its one group DICT as a table.
use Rattle.std.specs.Prelude.{ℕ, List, [], ◌∷◌, codes}
use Rattle.ags_rows.specs.Contents.{Contents}

-- the row of DICT for a group, with its parent
abbrev pub dict_group_row : List ℕ → List ℕ → List (List ℕ)
dict_group_row group parent = codes "GROUP" ∷ group ∷ [] ∷ [] ∷ parent ∷ []

-- the row of DICT for a heading of a group, with its status
abbrev pub dict_heading_row : List ℕ → List ℕ → List ℕ → List (List ℕ)
dict_heading_row group heading status = codes "HEADING" ∷ group ∷ heading ∷ status ∷ [] ∷ []

-- the DATA rows
abbrev pub mini_rows : List (List (List ℕ))
mini_rows =
    dict_group_row (codes "PROJ") (codes "-")
    ∷ dict_heading_row (codes "PROJ") (codes "PROJ_ID") (codes "KEY+REQUIRED")
    ∷ dict_heading_row (codes "PROJ") (codes "PROJ_NAME") (codes "OTHER")
    ∷ dict_heading_row (codes "PROJ") (codes "FILE_FSET") (codes "OTHER")
    ∷ dict_group_row (codes "TRAN") (codes "-")
    ∷ dict_heading_row (codes "TRAN") (codes "TRAN_ISNO") (codes "KEY")
    ∷ dict_heading_row (codes "TRAN") (codes "TRAN_DATE") (codes "OTHER")
    ∷ dict_heading_row (codes "TRAN") (codes "TRAN_AGS") (codes "OTHER")
    ∷ dict_heading_row (codes "TRAN") (codes "TRAN_DLIM") (codes "OTHER")
    ∷ dict_heading_row (codes "TRAN") (codes "TRAN_RCON") (codes "OTHER")
    ∷ dict_group_row (codes "ABBR") (codes "-")
    ∷ dict_heading_row (codes "ABBR") (codes "ABBR_HDNG") (codes "KEY")
    ∷ dict_heading_row (codes "ABBR") (codes "ABBR_CODE") (codes "KEY")
    ∷ dict_heading_row (codes "ABBR") (codes "ABBR_DESC") (codes "OTHER")
    ∷ dict_group_row (codes "UNIT") (codes "-")
    ∷ dict_heading_row (codes "UNIT") (codes "UNIT_UNIT") (codes "KEY")
    ∷ dict_heading_row (codes "UNIT") (codes "UNIT_DESC") (codes "OTHER")
    ∷ dict_group_row (codes "TYPE") (codes "-")
    ∷ dict_heading_row (codes "TYPE") (codes "TYPE_TYPE") (codes "KEY")
    ∷ dict_heading_row (codes "TYPE") (codes "TYPE_DESC") (codes "OTHER")
    ∷ dict_group_row (codes "DICT") (codes "-")
    ∷ dict_heading_row (codes "DICT") (codes "DICT_TYPE") (codes "KEY")
    ∷ dict_heading_row (codes "DICT") (codes "DICT_GRP") (codes "KEY")
    ∷ dict_heading_row (codes "DICT") (codes "DICT_HDNG") (codes "KEY")
    ∷ dict_heading_row (codes "DICT") (codes "DICT_STAT") (codes "OTHER")
    ∷ dict_heading_row (codes "DICT") (codes "DICT_PGRP") (codes "OTHER")
    ∷ dict_group_row (codes "FILE") (codes "-")
    ∷ dict_heading_row (codes "FILE") (codes "FILE_FSET") (codes "KEY")
    ∷ dict_heading_row (codes "FILE") (codes "FILE_NAME") (codes "KEY")
    ∷ dict_heading_row (codes "FILE") (codes "FILE_DESC") (codes "OTHER")
    ∷ dict_group_row (codes "LOCA") (codes "PROJ")
    ∷ dict_heading_row (codes "LOCA") (codes "LOCA_ID") (codes "KEY+REQUIRED")
    ∷ dict_heading_row (codes "LOCA") (codes "LOCA_TYPE") (codes "OTHER")
    ∷ dict_heading_row (codes "LOCA") (codes "LOCA_STAT") (codes "OTHER")
    ∷ dict_heading_row (codes "LOCA") (codes "LOCA_GL") (codes "OTHER")
    ∷ dict_heading_row (codes "LOCA") (codes "FILE_FSET") (codes "OTHER")
    ∷ dict_group_row (codes "SAMP") (codes "LOCA")
    ∷ dict_heading_row (codes "SAMP") (codes "LOCA_ID") (codes "KEY")
    ∷ dict_heading_row (codes "SAMP") (codes "SAMP_TOP") (codes "KEY")
    ∷ dict_heading_row (codes "SAMP") (codes "SAMP_REF") (codes "KEY")
    ∷ dict_heading_row (codes "SAMP") (codes "SAMP_BASE") (codes "OTHER")
    ∷ dict_heading_row (codes "SAMP") (codes "SAMP_LINK") (codes "OTHER")
    ∷ dict_group_row (codes "LNMC") (codes "SAMP")
    ∷ dict_heading_row (codes "LNMC") (codes "LOCA_ID") (codes "KEY")
    ∷ dict_heading_row (codes "LNMC") (codes "SAMP_TOP") (codes "KEY")
    ∷ dict_heading_row (codes "LNMC") (codes "SAMP_REF") (codes "KEY")
    ∷ dict_heading_row (codes "LNMC") (codes "SPEC_DPTH") (codes "KEY")
    ∷ dict_heading_row (codes "LNMC") (codes "LNMC_MC") (codes "OTHER")
    ∷ []

-- the group, alone in its file
abbrev pub mini_contents : List Contents
mini_contents = record {
  name = codes "DICT";
  headings = codes "DICT_TYPE" ∷ codes "DICT_GRP" ∷ codes "DICT_HDNG" ∷ codes "DICT_STAT" ∷ codes "DICT_PGRP" ∷ [];
  units = [] ∷ [] ∷ [] ∷ [] ∷ [] ∷ [];
  types = codes "X" ∷ codes "X" ∷ codes "X" ∷ codes "X" ∷ codes "X" ∷ [];
  rows = mini_rows;
} ∷ []
