-- What the closing program prints for the bytes on its standard input.
use Rattle.std.specs.Prelude.{ℕ, zero, suc, List, [], ◌∷◌, ◌++◌}
use Rattle.text.specs.declared.Reading.{Reading}
use Rattle.text.specs.Number.{bytes, digits}
use Rattle.text.specs.Reader.{read}
use Rattle.text.specs.Writer.{text}
use Rattle.closing.specs.declared.Closing.{Closing}
use Rattle.closing.specs.Close.{close}

-- `refused=N line=L` and an LF
abbrev pub refused_line : ℕ → ℕ → List ℕ
refused_line n l = bytes "refused=" ++ (digits n ++ (bytes " line=" ++ (digits l ++ (10 ∷ []))))

abbrev pub after_closing : ℕ → Closing → List ℕ
after_closing zero r = text r.table
after_closing (suc n) r = refused_line (suc n) r.line

abbrev pub after_reading : ℕ → Reading → List ℕ
after_reading zero r = let c = close r.table in after_closing c.number c
after_reading (suc n) r = refused_line (suc n) r.line

-- the closed text, or the refusal of the text or of its table
unfoldable pub printed : List ℕ → List ℕ
printed s = let r = read s in after_reading r.number r
