-- Lists of a file that lies in a text are no longer than the text.
use Rattle.std.proofs.Common.{ℕ, suc, ◌+◌, ◌≤◌, List, [], ◌∷◌, map, length, Bool, arith, length-append}
use Rattle.tower_syntax.specs.declared.named.Target.{Target}
use Rattle.tower_syntax.specs.RawTree.{Id, Link, RawHpart, emitter, callback, RawPart, state, handler, RawItem, fields, init, period, signal, channel, output, monitor}
use Rattle.arch_names.specs.declared.names.Thing.{Thing}
use Rattle.arch_names.specs.Names.{Find, find}
use Rattle.arch_names.specs.Sets.{states_of}
use Rattle.arch_names.specs.Site.{Site}
use Rattle.arch_names.specs.Linked.{linked_part, linked_item}
use Rattle.arch_types.specs.Outline.{each, written_of, handlers_from, emitter_of}
use Rattle.arch_order.proofs.InText.{AllLie, PartLies, ItemLies}

pub few : {X Y : Type 0} (P : X → ℕ → ℕ → Type 0) (f : X → Y) (xs : List X) (a b : ℕ) → AllLie P xs a b → a + length (map f xs) ≤ b
few P f [] a b h = omega (arith, h)
few P f (x ∷ xs) a b h = let k = few P f xs h.0 b h.3 in omega (arith, h.1, k)

pub few_emitters : (hs : List (RawHpart Link)) → length (each emitter_of hs) ≤ length hs
few_emitters [] = omega arith
few_emitters (emitter at x u k ∷ hs) = let l = few_emitters hs in omega (arith, l)
few_emitters (callback at x ss ∷ hs) = let l = few_emitters hs in omega (arith, l)

few_written : (k : ℕ) (ps : List (RawPart Link)) → length (each (written_of k) ps) ≤ length ps
few_written k [] = omega arith
few_written k (state at x t ∷ ps) = let l = few_written k ps in omega (arith, l)
few_written k (handler at x u hs ∷ ps) = let l = few_written k ps in omega (arith, l)

module _ (m : Site → Target) (file : Find Thing) (deep : Bool) (n : ℕ) where
  pub few_handlers : (k : ℕ) (items : List (RawItem Id)) (a b : ℕ) → AllLie (ItemLies deep n) items a b → a + length (handlers_from k (map (linked_item m file) items)) ≤ b
  few_handlers k [] a b h = omega (arith, h)
  few_handlers k (monitor at x ps ∷ items) a b h =
      let own = map (linked_part m file (find (states_of ps))) ps in
      let i = few_written k own in
      let j = few (PartLies (suc n)) (linked_part m file (find (states_of ps))) ps h.2.1.0 h.0 h.2.1.2 in
      let l = few_handlers (k + 1) items h.0 b h.3 in
      omega (arith, i, j, l, h.2.0, h.2.1.1.0, h.2.1.1.1, length-append (each (written_of k) own) (handlers_from (k + 1) (map (linked_item m file) items)))
  few_handlers k (fields at x fs ∷ items) a b h = let l = few_handlers k items h.0 b h.3 in omega (arith, l, h.1)
  few_handlers k (init at x p ∷ items) a b h = let l = few_handlers k items h.0 b h.3 in omega (arith, l, h.1)
  few_handlers k (period at x ms p d ∷ items) a b h = let l = few_handlers k items h.0 b h.3 in omega (arith, l, h.1)
  few_handlers k (signal at x t p d ∷ items) a b h = let l = few_handlers k items h.0 b h.3 in omega (arith, l, h.1)
  few_handlers k (channel at x t ∷ items) a b h = let l = few_handlers k items h.0 b h.3 in omega (arith, l, h.1)
  few_handlers k (output at x u ∷ items) a b h = let l = few_handlers k items h.0 b h.3 in omega (arith, l, h.1)
