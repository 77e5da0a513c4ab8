-- A generated file can be printed, and its line is short.
use Rattle.std.proofs.Common.{◌≡◌, ℕ, ◌+◌, ◌<◌, ◌≤◌, List, [], ◌∷◌, ◌++◌, map, length, All, Bool, true, false, ◌&&◌, nat_lt, nat_le, pos, codes, refl, arith}
use Rattle.std.proofs.lemmas.Bool.{leb-true}
use Rattle.std.proofs.lemmas.Int.{ints}
use Rattle.std.proofs.lemmas.List.Elements.{All-cons, All-append, All-map}
use Rattle.tower_syntax.specs.RawTree.{callback}
use Rattle.tower_syntax.specs.Form.{text, nesting}
use Rattle.tower_syntax.specs.Words.{IsName, IsLiteral}
use Rattle.tower_syntax.specs.Spelling.{is_name}
use Rattle.tower_syntax.specs.Printed.{raw_form}
use Rattle.tower_syntax.specs.Printable.{IsPrintableExpr, ArePrintableStmts, IsPrintableHpart, IsPrintablePart, IsPrintableItem, IsPrintable}
use Rattle.tower_reader.specs.Spelled.{byte_limit}
use Rattle.channel_graph.proofs.Members.{In, In-get_or, below_number, number_below}
use Rattle.tower_gen.specs.Draws.{Drawn}
use Rattle.tower_gen.specs.File.{upto, period_name, channel_name, output_name, monitor_name, handler_name, source_use, told, message, emitters, emits, body, called, hparts, parts, period_item, channel_item, output_item, monitor_item, made}
use Rattle.printed_files.specs.Fit.{Each}
use Rattle.tower_gen.specs.Rows.{spells_name}
use Rattle.tower_gen.specs.Made.{IsInRange}
use Rattle.printed_files.specs.Capped.{cap}
use Rattle.tower_gen.proofs.Computed
use Rattle.tower_gen.proofs.Picked.{all_at, both}
use Rattle.printed_files.proofs.Capped.{lines_are_capped}

named : (w : List ℕ) → spells_name w ≡ true → IsName w
named w h = let p = both (is_name w) (nat_le (length w) 64) h in (p.0, leb-true (length w) 64 p.1)

a_is : IsName (codes "a")
a_is = named (codes "a") refl

v_is : IsName (codes "v")
v_is = named (codes "v") refl

pos_is : IsName (codes "pos")
pos_is = named (codes "pos") refl

x_is : IsName (codes "x")
x_is = named (codes "x") refl

i_is : IsName (codes "i")
i_is = named (codes "i") refl

e_is : IsName (codes "e")
e_is = named (codes "e") refl

small_literal : (k : ℕ) → k ≤ 999 → IsLiteral (pos k)
small_literal k l = (omega (arith, ints), omega (arith, ints, l))

none_of : {X : Type 0} (P : X → Type 0) → All P []
none_of P = λ k d l. absurd (omega arith)

all_in : {X : Type 0} (P : X → Type 0) (xs : List X) → ((x : X) → In x xs → P x) → All P xs
all_in P xs h = λ k d l. h _ (In-get_or xs k d l)

each_all : {X : Type 0} (P : X → Type 0) (xs : List X) → Each P xs → All P xs
each_all P [] h = none_of P
each_all P (x ∷ xs) h = All-cons P x xs h.0 (each_all P xs h.1)

each_below : {X : Type 0} (P : X → Type 0) (f : ℕ → X) (n : ℕ) → ((i : ℕ) → i < n → P (f i)) → All P (map f (upto n))
each_below P f n h = All-map P f (upto n) (all_in (λ i. P (f i)) (upto n) (λ i m. h i (number_below n i m)))

module _ (d : Drawn) (range : IsInRange d) where
  message_is : (i : ℕ) (b : Bool) → nat_lt i 32 ≡ b → IsPrintableExpr (message i)
  message_is i true e = rw e (tt, x_is)
  message_is i false e = rw e x_is

  emits_is : (i : ℕ) (b : Bool) → nat_lt i 56 ≡ b → ArePrintableStmts (emits i)
  emits_is i true e = rw e ((e_is, a_is), tt)
  emits_is i false e = rw e tt

  body_is : (i : ℕ) → ArePrintableStmts (body d i)
  body_is i = (
    ((v_is, pos_is), message_is i (nat_lt i 32) refl),
    (
      (pos_is, (pos_is, ((omega arith, omega arith), small_literal 1 (omega arith)))),
      (
        (i_is, (omega arith, omega arith), ((a_is, ((a_is, (tt, small_literal (d.factor i) (range.factor i))), (v_is, i_is))), tt)),
        emits_is i (nat_lt i 56) refl,
      ),
    ),
  )

  emitters_are : (i : ℕ) → IsName (channel_name (told i)) → (b : Bool) → nat_lt i 56 ≡ b → All IsPrintableHpart (emitters i)
  emitters_are i h true e = rw e (All-cons IsPrintableHpart _ [] (e_is, h, (omega arith, omega arith)) (none_of IsPrintableHpart))
  emitters_are i h false e = rw e (none_of IsPrintableHpart)

  monitor_is : (i : ℕ) → i < 64 → IsPrintableItem 1 (monitor_item d i)
  monitor_is i l =
      let at = below_number 64 i l in
      let monitor_named = named (monitor_name i) (all_at (λ k. spells_name (monitor_name k)) (upto 64) Computed.monitor_names i at) in
      let handler_named = named (handler_name i) (all_at (λ k. spells_name (handler_name k)) (upto 64) Computed.handler_names i at) in
      let use_named = named (source_use i) (all_at (λ k. spells_name (source_use k)) (upto 64) Computed.use_names i at) in
      let told_named = named (channel_name (told i)) (all_at (λ k. spells_name (channel_name (told k))) (upto 64) Computed.told_names i at) in
      let heads : All IsPrintableHpart (hparts d i) = All-append IsPrintableHpart (emitters i) (callback 0 (called (codes "x")) (body d i) ∷ []) (emitters_are i told_named (nat_lt i 56) refl) (All-cons IsPrintableHpart (callback 0 (called (codes "x")) (body d i)) [] (x_is, body_is i) (none_of IsPrintableHpart)) in
      (monitor_named, each_all IsPrintablePart (parts d i) ((a_is, tt), ((v_is, ((omega arith, omega arith), tt)), ((pos_is, (omega arith, omega arith)), ((handler_named, use_named, heads), tt)))))

  period_is : (i : ℕ) → i < 32 → IsPrintableItem 1 (period_item d i)
  period_is i l = (named (period_name i) (all_at (λ k. spells_name (period_name k)) (upto 32) Computed.period_names i (below_number 32 i l)), (let h = range.some_ms i in omega (arith, h), let h = range.few_ms i in omega (arith, h)), (omega arith, range.priority i), refl)

  channel_is : (i : ℕ) → i < 16 → IsPrintableItem 1 (channel_item i)
  channel_is i l = (named (channel_name i) (all_at (λ k. spells_name (channel_name k)) (upto 16) Computed.channel_names i (below_number 16 i l)), tt)

  output_is : (i : ℕ) → i < 4 → IsPrintableItem 1 (output_item i)
  output_is i l =
      let p = both (spells_name (output_name i)) (spells_name (channel_name (12 + i))) (all_at (λ k. spells_name (output_name k) && spells_name (channel_name (12 + k))) (upto 4) Computed.output_names i (below_number 4 i l)) in
      (named (output_name i) p.0, named (channel_name (12 + i)) p.1)

  pub printable : IsPrintable (made d)
  printable = record {
    version = (omega arith, omega arith);
    name = named (codes "gen") refl;
    items =
        All-append (IsPrintableItem 1) (map (period_item d) (upto 32) ++ map channel_item (upto 16) ++ map output_item (upto 4)) (map (monitor_item d) (upto 64))
        (All-append (IsPrintableItem 1) (map (period_item d) (upto 32) ++ map channel_item (upto 16)) (map output_item (upto 4))
        (All-append (IsPrintableItem 1) (map (period_item d) (upto 32)) (map channel_item (upto 16)) (each_below (IsPrintableItem 1) (period_item d) 32 period_is) (each_below (IsPrintableItem 1) channel_item 16 channel_is))
        (each_below (IsPrintableItem 1) output_item 4 output_is))
        (each_below (IsPrintableItem 1) (monitor_item d) 64 monitor_is);
    nested = leb-true (nesting (raw_form (made d))) 256 (Computed.nested d);
  }

  pub short : length (text (raw_form (made d))) ≤ byte_limit
  short = let a = lines_are_capped (made d) printable in let b = leb-true (cap (raw_form (made d))) byte_limit (Computed.capped d) in chained _ _ _ a b
    where
      chained : (l m n : ℕ) → l ≤ m → m ≤ n → l ≤ n
      chained l m n h k = omega (arith, h, k)
