-- What the lines of a text make, whatever follows it.
use Rattle.std.proofs.Common.{◌≡◌, ◌≤◌, List, [], ◌∷◌, ◌++◌, length, cond, Bool, true, false, ◌||◌, ap, sym, ◌∙◌, subst, append_assoc, append-nil}
use Rattle.std.specs.List.{flat_map}
use Rattle.tower_syntax.specs.declared.event.Mark.{Mark}
use Rattle.tower_syntax.specs.Arch.{Arch}
use Rattle.tower_report.specs.Bytes.{spaced, line}
use Rattle.event_record.specs.Lines.{Bytes, lines, begins_with}
use Rattle.event_record.specs.Format.{AllMake, no_lines, a_line, byte_limit}
use Rattle.event_record.specs.Order.{begins_other_line, is_passed_over, MakesMarks, nothing, order_format, SpellsOrder}
use Rattle.run_order.proofs.Above.{above, is_word, are_above, spaced_above}
use Rattle.run_order.proofs.Words.{line_ended, first_of_line, last_of_line}

-- the text's lines make these marks, before those of what follows
pub record Says (arch : Arch) (t : Bytes) (ms : List Mark) : Type 0 where
  pub before : (rest : Bytes) (more : List Mark) → AllMake (order_format arch) (lines rest) more → AllMake (order_format arch) (lines (t ++ rest)) (ms ++ more)

pub says_none : (arch : Arch) → Says arch [] []
says_none arch = record { before = λ rest more h. h }

pub says_both : (arch : Arch) (a b : Bytes) (ms ns : List Mark) → Says arch a ms → Says arch b ns → Says arch (a ++ b) (ms ++ ns)
says_both arch a b ms ns f g = record {
  before = λ rest more h.
      subst (λ t. AllMake (order_format arch) (lines t) ((ms ++ ns) ++ more)) (sym (append_assoc a b rest))
      (subst (λ ns. AllMake (order_format arch) (lines (a ++ (b ++ rest))) ns) (sym (append_assoc ms ns more)) (f.before (b ++ rest) (ns ++ more) (g.before rest more h)));
}

-- two texts of which the second makes no mark
pub says_then : (arch : Arch) (a b : Bytes) (ms : List Mark) → Says arch a ms → Says arch b [] → Says arch (a ++ b) ms
says_then arch a b ms f g = subst (Says arch (a ++ b)) (append-nil ms) (says_both arch a b ms [] f g)

pub says_line : (arch : Arch) (ws : List Bytes) (ms : List Mark) → above 10 (spaced ws) ≡ true → MakesMarks arch (spaced ws) ms → Says arch (line ws) ms
says_line arch ws ms h m = record {
  before = λ rest more g.
      let e : lines (line ws ++ rest) ≡ spaced ws ∷ lines rest = ap lines (append_assoc (spaced ws) (10 ∷ []) rest) ∙ line_ended (spaced ws) rest h in
      subst (λ ls. AllMake (order_format arch) ls (ms ++ more)) (sym e) (a_line m g);
}

-- a line that begins with one of the words that are passed over
pub says_passed : (arch : Arch) (w : Bytes) (vs : List Bytes) → is_word w ≡ true → (begins_with 0x3B w || begins_other_line w) ≡ true → are_above (w ∷ vs) ≡ true → Says arch (line (w ∷ vs)) []
says_passed arch w [] h p a = says_line arch (w ∷ []) [] (spaced_above (w ∷ []) a) (nothing (ap is_passed_over (last_of_line w h) ∙ p))
says_passed arch w (v ∷ vs) h p a = says_line arch (w ∷ v ∷ vs) [] (spaced_above (w ∷ v ∷ vs) a) (nothing (ap is_passed_over (first_of_line w v vs h) ∙ p))

pub says_each : {X : Type 0} (arch : Arch) (f : X → Bytes) → ((x : X) → Says arch (f x) []) → (xs : List X) → Says arch (flat_map f xs) []
says_each arch f h [] = says_none arch
says_each arch f h (x ∷ xs) = says_both arch (f x) (flat_map f xs) [] [] (h x) (says_each arch f h xs)

pub says_if : (arch : Arch) (b : Bool) (t : Bytes) → Says arch t [] → Says arch (cond b t []) []
says_if arch true t h = h
says_if arch false t h = says_none arch

-- so a whole text spells its marks
pub says_spells : (arch : Arch) (t : Bytes) (ms : List Mark) → Says arch t ms → length t ≤ byte_limit → SpellsOrder arch t ms
says_spells arch t ms h short = record {
  short = short;
  makes =
      subst (λ ms. AllMake (order_format arch) (lines t) ms) (append-nil ms)
      (subst (λ t. AllMake (order_format arch) (lines t) (ms ++ [])) (append-nil t) (h.before [] [] no_lines));
  few = λ k many. many;
}
