-- Texts that are put one after another.
use Rattle.std.proofs.Common.{◌≡◌, ℕ, List, [], ◌++◌, Option, Result, Ok, Err, refl, sym, ◌∙◌, subst, arith}
use Rattle.std.proofs.lemmas.Bool.{false≢true}
use Rattle.std.specs.Result.{IsErr}
use Rattle.tower_io.specs.declared.answers.Put.{Put}
use Rattle.tower_io.specs.declared.answers.Put.TheVariants.{Done, Failed}
use Rattle.tower_io.specs.Faults.{Rose}
use Rattle.tower_io.proofs.Adding.{Adds_none, Adds_trans, AddsPrefix_longer, AddsPrefix_after}
use Rattle.tower_report.specs.Bytes.{Bytes}
use Rattle.tower_report.specs.Puts.{Puts, answer_of}

-- nothing is to be put
pub Puts-none : {S : Type 0} (w : S → Option (List ℕ)) (f : S → ℕ) (a : S) → Puts w f a a [] Done
Puts-none w f a = record { all = Adds_none (w a); calm = refl; part = tt; rose = tt; never_falls = omega arith }

then_by : {S : Type 0} (w : S → Option (List ℕ)) (f : S → ℕ) (a b c : S) (xs ys : Bytes) (r : Put) → Puts w f a b xs Done → Puts w f b c ys r → Puts w f a c (xs ++ ys) r
then_by w f a b c xs ys Done first next = record {
  all = Adds_trans (w a) (w b) (w c) xs ys first.all next.all;
  calm = next.calm ∙ first.calm;
  part = tt;
  rose = tt;
  never_falls = omega (arith, first.never_falls, next.never_falls);
}
then_by w f a b c xs ys Failed first next = record {
  all = tt;
  calm = tt;
  part = AddsPrefix_after (w a) (w b) (w c) xs ys first.all next.part;
  rose = let P : ℕ → Type 0 = λ n. Rose n (f c) in subst P first.calm next.rose;
  never_falls = omega (arith, first.never_falls, next.never_falls);
}

module _ {S : Type 0} {w : S → Option (List ℕ)} {f : S → ℕ} where
  -- both texts were put whole
  pub Puts-then : {a b c : S} {xs ys : Bytes} → Puts w f a b xs Done → Puts w f b c ys Done → Puts w f a c (xs ++ ys) Done
  Puts-then {a} {b} {c} {xs} {ys} first next = then_by w f a b c xs ys Done first next

  -- the first text was put whole, and the next failed
  pub Puts-fail : {a b c : S} {xs ys : Bytes} → Puts w f a b xs Done → Puts w f b c ys Failed → Puts w f a c (xs ++ ys) Failed
  Puts-fail {a} {b} {c} {xs} {ys} first next = then_by w f a b c xs ys Failed first next

  -- where a text failed, none comes after it
  pub Puts-stop : {a b : S} {xs : Bytes} (ys : Bytes) → Puts w f a b xs Failed → Puts w f a b (xs ++ ys) Failed
  Puts-stop {a} {b} {xs} ys first = record {
    all = tt;
    calm = tt;
    part = AddsPrefix_longer (w a) (w b) xs ys first.part;
    rose = first.rose;
    never_falls = first.never_falls;
  }

  -- the same text, written in another way
  pub Puts-same : {a b : S} {xs ys : Bytes} {r : Put} → xs ≡ ys → Puts w f a b xs r → Puts w f a b ys r
  Puts-same {a} {b} {xs} {ys} {r} e h = let P : Bytes → Type 0 = λ t. Puts w f a b t r in subst P e h

  -- the same answer
  pub Puts-answer : {a b : S} {xs : Bytes} {r s : Put} → s ≡ r → Puts w f a b xs r → Puts w f a b xs s
  Puts-answer {a} {b} {xs} {r} {s} e h = let P : Put → Type 0 = λ t. Puts w f a b xs t in subst P (sym e) h

  -- the answer of a `?` that ends the call
  pub Puts-err : {T E : Type 0} {a b : S} {xs : Bytes} (r : Result T E) → IsErr r → Puts w f a b xs Failed → Puts w f a b xs (answer_of r)
  Puts-err (Ok x) failed h = absurd (false≢true failed)
  Puts-err (Err e) failed h = h
