-- A list of statements, as far as it was gone through.
use Rattle.std.proofs.Common.{◌≡◌, List, [], ◌∷◌, ◌++◌, Option, Some, None, Result, Ok, Err, refl, sym, ap, append_assoc, append-nil}
use Rattle.tower_syntax.specs.Tree.{Stmt}
use Rattle.tower_syntax.specs.RawTree.{no_stmts}
use Rattle.arch_types.specs.declared.fault.TypeFault.{TypeFault}
use Rattle.arch_types.specs.declared.fault.TypeFault.TheVariants as fault
use Rattle.arch_types.specs.declared.high.High.{High}
use Rattle.arch_types.specs.Walk.{Known, Walked, AllWalked, first_high, earlier, joined, walked_all}

-- the rest of a list, behind these statements
abbrev pub resumed : Option High → List Stmt → Result AllWalked TypeFault → Result AllWalked TypeFault
resumed high ts (Ok r) = Ok (record { high = first_high high r.high; trees = ts ++ r.trees; binders = r.binders; writable = r.writable })
resumed high ts (Err f) = Err (earlier high f)

pub earlier_none : (f : TypeFault) → earlier None f ≡ f
earlier_none (fault.Mismatch at w t) = refl
earlier_none (fault.NotPlace at) = refl
earlier_none (fault.Field at) = refl
earlier_none (fault.Range at) = refl
earlier_none (fault.Deep at d) = refl
earlier_none fault.NoMemory = refl

earlier_twice : (h d : Option High) (f : TypeFault) → earlier h (earlier d f) ≡ earlier (first_high h d) f
earlier_twice None d f = earlier_none (earlier d f)
earlier_twice (Some h) None f = ap (earlier (Some h)) (earlier_none f)
earlier_twice (Some h) (Some d) (fault.Mismatch at w t) = refl
earlier_twice (Some h) (Some d) (fault.NotPlace at) = refl
earlier_twice (Some h) (Some d) (fault.Field at) = refl
earlier_twice (Some h) (Some d) (fault.Range at) = refl
earlier_twice (Some h) (Some d) (fault.Deep at n) = refl
earlier_twice (Some h) (Some d) fault.NoMemory = refl

high_twice : (a b c : Option High) → first_high a (first_high b c) ≡ first_high (first_high a b) c
high_twice None b c = refl
high_twice (Some a) b c = refl

high_none : (h : Option High) → first_high h None ≡ h
high_none None = refl
high_none (Some h) = refl

pub starts : (r : Result AllWalked TypeFault) → r ≡ resumed None [] r
starts (Ok r) = refl
starts (Err f) = ap Err (sym (earlier_none f))

pub joined_resumed : (h : Option High) (ts : List Stmt) (d : Walked) (r : Result AllWalked TypeFault) → resumed h ts (joined d r) ≡ resumed (first_high h d.high) (ts ++ d.tree ∷ []) r
joined_resumed h ts d (Ok r) = λ i. Ok (record { high = high_twice h d.high r.high i; trees = sym (append_assoc ts (d.tree ∷ []) r.trees) i; binders = r.binders; writable = r.writable })
joined_resumed h ts d (Err f) = ap Err (earlier_twice h d.high f)

pub ends : (h : Option High) (ts : List Stmt) (γ : Known) → resumed h ts (walked_all γ no_stmts) ≡ Ok (record { high = h; trees = ts; binders = γ.binders; writable = γ.writable })
ends h ts γ = λ i. Ok (record { high = high_none h i; trees = append-nil ts i; binders = γ.binders; writable = γ.writable })
