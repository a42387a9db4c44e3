-- Places in a text.
use Rattle.std.specs.Prelude.{ℕ, ◌+◌, if◌then◌else◌, ◌==◌, List, [], ◌∷◌}
use Rattle.std.specs.Char.{len_utf8}
use Rattle.ls_reader.specs.declared.place.Place.{Place}
use Rattle.ls_reader.specs.declared.datum.Span.{Span}

-- the place of the first character
abbrev pub start : Place
start = record { byte = 0; line = 1; column = 1 }

-- the place behind a character; a newline ends a line
abbrev pub after : Place → ℕ → Place
after p c = record {
  byte = p.byte + len_utf8 c;
  line = if c == 10 then p.line + 1 else p.line;
  column = if c == 10 then 1 else p.column + 1;
}

-- the place behind a text
abbrev pub after_all : Place → List ℕ → Place
after_all p [] = p
after_all p (c ∷ cs) = after_all (after p c) cs

-- the empty span at a place
abbrev pub span_at : Place → Span
span_at p = record { start = p.byte; end = p.byte; line = p.line; column = p.column }
