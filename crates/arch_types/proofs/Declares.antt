-- Each record's fields name the records before it.
use Rattle.std.proofs.Common.{◌≡◌, ℕ, zero, suc, ◌+◌, ◌<◌, ◌≤◌, ◌^◌, List, [], ◌∷◌, ◌++◌, map, length, take, get_or, All, sym, ap, subst, arith, length-append, length-take}
use Rattle.std.proofs.lemmas.List.{length-map}
use Rattle.std.proofs.lemmas.List.Elements.{All-weaker, All-map}
use Rattle.tower_types.specs.Ty.{Fields}
use Rattle.tower_types.specs.Records.{IsTypeAmong}
use Rattle.tower_syntax.specs.RawTree.{Link, RawField, RawItem, fields, init, period, signal, channel, output, monitor}
use Rattle.tower_syntax.specs.Arch.{Arch}
use Rattle.arch_types.specs.Typing.{type_of}
use Rattle.arch_types.specs.Outline.{each, field, record_of}
use Rattle.arch_types.specs.Numbered.{IsDeclaredType, AreItems, DeclaresFields, DeclareRecords}
use Rattle.arch_types.proofs.Gathered.{Gathered}
use Rattle.arch_types.proofs.SoundTypes.{declared, among}

abbrev pub AreWritten : ℕ → List (RawField Link) → Type 0
AreWritten n fs = All (λ f. IsDeclaredType n f.ty) fs

pub fields_among : (n : ℕ) (fs : List (RawField Link)) (made : Fields) → made ≡ map field fs → All (λ f. IsDeclaredType n f.ty) fs → All (λ f. IsTypeAmong n f.1) made
fields_among n fs made e h = subst (All (λ f. IsTypeAmong n f.1)) (sym e)
    (All-map (λ f. IsTypeAmong n f.1) field fs (All-weaker (λ f. IsDeclaredType n f.ty) (λ f. IsTypeAmong n (type_of f.ty)) (λ f x. among n (type_of f.ty) (declared n f.ty x)) fs h))

at_most_one : (x : RawItem Link) → length (record_of x) ≤ 1
at_most_one (fields at i fs) = omega arith
at_most_one (init at i p) = omega arith
at_most_one (period at i ms p d) = omega arith
at_most_one (signal at i t p d) = omega arith
at_most_one (channel at i t) = omega arith
at_most_one (output at i u) = omega arith
at_most_one (monitor at i ps) = omega arith

few : (xs : List (RawItem Link)) → length (each record_of xs) ≤ length xs
few [] = omega arith
few (x ∷ xs) = let a = at_most_one x in let b = few xs in let c = length-append (record_of x) (each record_of xs) in omega arith

module _ (arch : Arch) (version : ℕ) where
  first : (n : ℕ) (x : RawItem Link) (xs : List (RawItem Link)) → AreItems arch version n (x ∷ xs) → DeclaresFields n x
  first n (fields at i fs) xs h = h.0
  first n (init at i p) xs h = tt {0}
  first n (period at i ms p d) xs h = tt {0}
  first n (signal at i t p d) xs h = tt {0}
  first n (channel at i t) xs h = tt {0}
  first n (output at i u) xs h = tt {0}
  first n (monitor at i ps) xs h = tt {0}

  rest : (n : ℕ) (x : RawItem Link) (xs : List (RawItem Link)) → AreItems arch version n (x ∷ xs) → AreItems arch version (n + length (record_of x)) xs
  rest n (fields at i fs) xs h = let e : suc n ≡ n + 1 = omega arith in subst (λ k. AreItems arch version k xs) e h.2
  rest n (init at i p) xs h = let e : n ≡ n + 0 = omega arith in subst (λ k. AreItems arch version k xs) e h
  rest n (period at i ms p d) xs h = let e : n ≡ n + 0 = omega arith in subst (λ k. AreItems arch version k xs) e h.2
  rest n (signal at i t p d) xs h = let e : n ≡ n + 0 = omega arith in subst (λ k. AreItems arch version k xs) e h.2
  rest n (channel at i t) xs h = let e : n ≡ n + 0 = omega arith in subst (λ k. AreItems arch version k xs) e h.1
  rest n (output at i u) xs h = let e : n ≡ n + 0 = omega arith in subst (λ k. AreItems arch version k xs) e h.1
  rest n (monitor at i ps) xs h = let e : n ≡ n + 0 = omega arith in subst (λ k. AreItems arch version k xs) e h.2

  pub declare : (n : ℕ) (xs : List (RawItem Link)) → AreItems arch version n xs → DeclareRecords n xs
  declare n [] h = tt {0}
  declare n (x ∷ xs) h = (first n x xs h, declare (n + length (record_of x)) xs (rest n x xs h))

module _ {R : Type 0} (raw : R → RawItem Link) where
  declares_at : (xs : List R) (n i : ℕ) (y : R) → DeclareRecords n (map raw xs) → y ≡ get_or xs i y → i < length xs → DeclaresFields (n + length (each record_of (map raw (take i xs)))) (raw y)
  declares_at [] n i y h e l = absurd (omega arith)
  declares_at (x ∷ xs) n zero y h e l = let d : n ≡ n + 0 = omega arith in
      subst (λ k. DeclaresFields k (raw y)) d (subst (λ z. DeclaresFields n (raw z)) (sym e) h.0)
  declares_at (x ∷ xs) n (suc i) y h e l =
      let m : i < length xs = omega arith in
      let r = length-append (record_of (raw x)) (each record_of (map raw (take i xs))) in
      let d : (n + length (record_of (raw x))) + length (each record_of (map raw (take i xs))) ≡ n + length (record_of (raw x) ++ each record_of (map raw (take i xs))) = omega arith in
      subst (λ k. DeclaresFields k (raw y)) d (declares_at xs (n + length (record_of (raw x))) i y h.1 e m)

  -- the records gathered so far
  pub room : (made : List Fields) (xs : List R) (i : ℕ) → i < length xs → Gathered raw record_of [] (take i xs) made → length xs ≤ 2 ^ 32 → length made < 2 ^ 32
  room made xs i l g h =
      let a = few (map raw (take i xs)) in let b = length-map {A = R} {B = RawItem Link} (take i xs) raw in let c = length-take {A = R} i xs in
      let d : length made ≡ length (each record_of (map raw (take i xs))) = ap length g.seen_is in omega arith

  pub known_at : (made : List Fields) (xs : List R) (i : ℕ) (y : R) → i < length xs → Gathered raw record_of [] (take i xs) made → DeclareRecords 0 (map raw xs) → y ≡ get_or xs i y → DeclaresFields (length made) (raw y)
  known_at made xs i y l g h e =
      let d : length (each record_of (map raw (take i xs))) ≡ length made = ap length (sym g.seen_is) in
      let z : 0 + length (each record_of (map raw (take i xs))) ≡ length made = omega arith in
      subst (λ k. DeclaresFields k (raw y)) z (declares_at xs 0 i y h e l)
