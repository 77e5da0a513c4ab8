-- Laws of bytes that are added.
use Rattle.std.proofs.Common.{◌≡◌, ℕ, List, [], ◌++◌, Option, None, Some, refl, sym, ap, ◌∙◌, append_assoc, append-nil, take, drop, subst, take-append-drop}
use Rattle.std.specs.Io.KnownBytes.{Appends, Keeps}
use Rattle.tower_io.specs.Sinks.{Adds, AddsPrefix, OnDone, OnPutFailed}
use Rattle.tower_io.specs.declared.answers.Put.{Put}
use Rattle.tower_io.specs.declared.answers.Put.TheVariants.{Done, Failed}

pub Adds_none : (old : Option (List ℕ)) → Adds old old []
Adds_none old = record { added = λ told is. is ∙ ap Some (sym (append-nil told)) }

pub Adds_trans : (old mid new : Option (List ℕ)) (xs ys : List ℕ) → Adds old mid xs → Adds mid new ys → Adds old new (xs ++ ys)
Adds_trans old mid new xs ys first second = record {
  added = λ told is.
      second.added (told ++ xs) (first.added told is) ∙ ap Some (append_assoc told xs ys);
}

-- all of the bytes, or none, are a first part of them
pub AddsPrefix_all : (old new : Option (List ℕ)) (bytes : List ℕ) → Adds old new bytes → AddsPrefix old new bytes
AddsPrefix_all old new bytes adds = record { part = bytes; rest = []; whole = sym (append-nil bytes); adds = adds }

pub AddsPrefix_none : (old : Option (List ℕ)) (bytes : List ℕ) → AddsPrefix old old bytes
AddsPrefix_none old bytes = record { part = []; rest = bytes; whole = refl; adds = Adds_none old }

-- the first n bytes were added
pub AddsPrefix_take : (told new bytes : List ℕ) (n : ℕ) → new ≡ told ++ take n bytes → AddsPrefix (Some told) (Some new) bytes
AddsPrefix_take told new bytes n e = record {
  part = take n bytes;
  rest = drop n bytes;
  whole = sym (take-append-drop n bytes);
  adds = record { added = λ old is. cc };
}

-- a first part of more
pub AddsPrefix_longer : (old new : Option (List ℕ)) (xs ys : List ℕ) → AddsPrefix old new xs → AddsPrefix old new (xs ++ ys)
AddsPrefix_longer old new xs ys p = record {
  part = p.part;
  rest = p.rest ++ ys;
  whole = ap (λ l. l ++ ys) p.whole ∙ append_assoc p.part p.rest ys;
  adds = p.adds;
}

-- all of `xs`, and then a first part of `ys`
pub AddsPrefix_after : (old mid new : Option (List ℕ)) (xs ys : List ℕ) → Adds old mid xs → AddsPrefix mid new ys → AddsPrefix old new (xs ++ ys)
AddsPrefix_after old mid new xs ys first p = record {
  part = xs ++ p.part;
  rest = p.rest;
  whole = ap (λ l. xs ++ l) p.whole ∙ sym (append_assoc xs p.part p.rest);
  adds = Adds_trans old mid new xs p.part first p.adds;
}

-- what a writer of std appends is added
pub Adds_appended : (old new : Option (List ℕ)) (bytes : List ℕ) → Appends old new bytes → Adds old new bytes
Adds_appended None new bytes h = record { added = λ told is. absurd (cc) }
Adds_appended (Some xs) None bytes h = absurd h
Adds_appended (Some xs) (Some ys) bytes h = record { added = λ told is. cc }

pub Adds_kept : (old new : Option (List ℕ)) → Keeps old new → Adds old new []
Adds_kept None new h = record { added = λ told is. absurd (cc) }
Adds_kept (Some xs) None h = absurd h
Adds_kept (Some xs) (Some ys) h = record { added = λ told is. let e : told ++ [] ≡ told = append-nil told in cc }

-- some of the bytes were added, and `rest` is still to be
pub record AddsUpTo (old new : Option (List ℕ)) (bytes rest : List ℕ) : Type 0 where
  pub part : List ℕ
  pub whole : bytes ≡ part ++ rest
  pub adds : Adds old new part

-- the next n bytes of the rest were written
pub AddsUpTo_next : (old mid new : Option (List ℕ)) (bytes rest rest' : List ℕ) (n : ℕ) → AddsUpTo old mid bytes rest
    → Appends mid new (take n rest) → rest' ≡ drop n rest → AddsUpTo old new bytes rest'
AddsUpTo_next old mid new bytes rest rest' n before wrote e = record {
  part = before.part ++ take n rest;
  whole = before.whole ∙ ap (λ l. before.part ++ l) (sym (take-append-drop n rest) ∙ ap (λ l. take n rest ++ l) (sym e)) ∙ sym (append_assoc before.part (take n rest) rest');
  adds = Adds_trans old mid new before.part (take n rest) before.adds (Adds_appended mid new (take n rest) wrote);
}

-- nothing is left to write
pub AddsUpTo_end : (old new : Option (List ℕ)) (bytes rest : List ℕ) → AddsUpTo old new bytes rest → rest ≡ [] → Adds old new bytes
AddsUpTo_end old new bytes rest before e =
    subst (Adds old new) (sym (before.whole ∙ ap (λ l. before.part ++ l) e ∙ append-nil before.part)) before.adds

-- an attempt that wrote nothing ends it
pub AddsUpTo_prefix : (old mid new : Option (List ℕ)) (bytes rest : List ℕ) → AddsUpTo old mid bytes rest → Keeps mid new → AddsPrefix old new bytes
AddsUpTo_prefix old mid new bytes rest before kept = record {
  part = before.part;
  rest = rest;
  whole = before.whole;
  adds = subst (Adds old new) (append-nil before.part) (Adds_trans old mid new before.part [] before.adds (Adds_kept mid new kept));
}

-- a last put whose answer is handed on, after all of `xs`
pub OnDone_after : (r : Put) (old mid new : Option (List ℕ)) (xs ys : List ℕ) → Adds old mid xs → OnDone r (Adds mid new ys) → OnDone r (Adds old new (xs ++ ys))
OnDone_after Done old mid new xs ys first h = Adds_trans old mid new xs ys first h
OnDone_after Failed old mid new xs ys first h = tt

pub OnPutFailed_after : (r : Put) (old mid new : Option (List ℕ)) (xs ys : List ℕ) → Adds old mid xs → OnPutFailed r (AddsPrefix mid new ys) → OnPutFailed r (AddsPrefix old new (xs ++ ys))
OnPutFailed_after Done old mid new xs ys first h = tt
OnPutFailed_after Failed old mid new xs ys first h = AddsPrefix_after old mid new xs ys first h
