-- The lines of a report.
use Rattle.std.specs.Prelude.{ℕ, List, [], ◌∷◌, codes, length}
use Rattle.pw_fields.specs.Fields.{parts}
use Rattle.std.specs.Fmt.{decimal}
use Rattle.hex.specs.Hex.{encode_lower}
use Rattle.pw_build_files.specs.declared.report.Report.{Report}

-- how many modules were made anew, of how many; the bytes of the image, and the digits of its digest
abbrev pub lines_with : ℕ → ℕ → ℕ → List ℕ → List ℕ
lines_with rebuilt modules size digits = parts
    (codes "built " ∷ decimal rebuilt ∷ codes " of " ∷ decimal modules ∷ codes "\nimage " ∷ decimal size ∷ codes " " ∷ digits ∷ codes "\n" ∷ [])

-- the digest is told in lower-case hexadecimal digits
abbrev pub report_lines : ℕ → ℕ → ℕ → List ℕ → List ℕ
report_lines rebuilt modules size digest = lines_with rebuilt modules size (encode_lower digest)

abbrev pub report_text : Report → List ℕ
report_text report = report_lines (length report.rebuilt.items) report.modules (length report.image.items) report.digest
