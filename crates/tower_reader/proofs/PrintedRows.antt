-- A printed file read again, computed.
use Rattle.std.proofs.Common.{◌≡◌, ℕ, List, [], ◌∷◌, refl, ap, arith}
use Rattle.std.specs.Fmt.{digits}
use Rattle.tower_reader.specs.WorkedPrinted.{WorkedPrinted}

abbrev head_byte : List ℕ → ℕ
head_byte [] = 0
head_byte (b ∷ bs) = b

pub worked_printed : WorkedPrinted
unfolding digits
worked_printed = record {
  again = refl;
  alike = refl;
  other_name = λ h. let k : 97 ≡ 98 = ap (λ r. head_byte r.name.name) h in omega arith;
  other_version = λ h. let k = ap (λ r. r.version) h in omega arith;
  other_number = λ h. let k = ap (λ r. r.items) h in cc;
  other_order = λ h. let k = ap (λ r. r.items) h in cc;
  one_more = λ h. let k = ap (λ r. r.items) h in cc;
  other_type = λ h. let k = ap (λ r. r.items) h in cc;
  other_depth = λ h. let k = ap (λ r. r.items) h in cc;
}
