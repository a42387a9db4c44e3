-- The generated text is read as its forms.
use Rattle.std.proofs.Common.{ℕ, ◌≤◌, List, sym, subst}
use Rattle.std.proofs.lemmas.Str.{IsUtf8-from_ascii, chars-IsAscii}
use Rattle.ls_reader.specs.declared.datum.Datum.{Datum}
use Rattle.ls_reader.specs.Forms.{Forms, FormsIn}
use Rattle.ls_gen.specs.Generated.{generated_text}
use Rattle.ls_gen.specs.Shapes.{AreGenerated}
use Rattle.ls_gen.proofs.AsciiLemmas.{generated_ascii}
use Rattle.ls_gen.proofs.TextLemmas.{generated_forms}

-- the text is ASCII, so its bytes are its characters
pub generated_read : (n : ℕ) → n ≤ 4096 → (fs : List Datum) × Forms (generated_text n) fs × AreGenerated n fs
generated_read n few =
    let text = generated_text n in
    let ascii = generated_ascii n few in
    let found = generated_forms n few in
    let read = subst (λ (cs : List ℕ). FormsIn cs found.0) (sym (chars-IsAscii text ascii)) found.1 in
    (found.0, (IsUtf8-from_ascii text ascii, read), found.2)
