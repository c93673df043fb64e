-- The parts of a head that are looked at.
use Rattle.std.specs.Prelude.{ℕ, ◌==◌, List, map}
use Rattle.std.specs.List.{before_first, after_first}
use Rattle.httparse.specs.Grammar.{RequestHead}
use Rattle.httparse.specs.Spans.{name_and_value, header_bytes}
use Rattle.reg_http.specs.Bodies.{question_mark}
use Rattle.reg_http.specs.Fields.{values_of, Few, few}
use Rattle.reg_http.specs.declared.request.parts.Parts.{Parts}

-- the fields are pairs of a name and a value, the value without spaces and tabs at both ends
pub record HeadParts : Type 0 where
  pub method : List ℕ
  pub path : List ℕ
  pub query : List ℕ
  pub fields : List (List ℕ × List ℕ)

-- the target before the first question mark, percent signs kept as they are
abbrev pub path_of : List ℕ → List ℕ
path_of target = before_first (λ b. b == question_mark) target

-- what follows the first question mark
abbrev pub query_of : List ℕ → List ℕ
query_of target = after_first (λ b. b == question_mark) target

abbrev pub head_parts : RequestHead → HeadParts
head_parts h = record {
  method = h.method;
  path = path_of h.target;
  query = query_of h.target;
  fields = map name_and_value h.fields;
}

-- the parts as the code holds them
abbrev pub parts_seen : Parts → HeadParts
parts_seen p = record {
  method = p.method.now;
  path = p.path.now;
  query = p.query.now;
  fields = map (header_bytes p.buf.now) p.fields.now;
}

-- how many fields have the name, and the value of the one
abbrev pub values_in : HeadParts → List ℕ → Few
values_in parts name = few (values_of name parts.fields)
