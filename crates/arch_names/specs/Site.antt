-- A place of the file where a name stands, with the first declaration that the name finds there; and what that makes
-- of it.
use Rattle.std.specs.Prelude.{◌≡◌, ◌⊎◌, ℕ, ◌<◌, Option, Some, None}
use Rattle.tower_syntax.specs.RawTree.{Id}
use Rattle.tower_syntax.specs.declared.named.Target.{Target}
use Rattle.arch_names.specs.declared.names.Declared.{Declared}
use Rattle.arch_names.specs.declared.names.Thing.{Thing}
use Rattle.arch_names.specs.declared.fault.Sort.{Sort}
use Rattle.arch_names.specs.declared.fault.Sort.TheVariants as sort
use Rattle.arch_names.specs.declared.fault.NameFault.{NameFault}
use Rattle.arch_names.specs.declared.fault.NameFault.TheVariants as fault
use Rattle.arch_names.specs.Names.{sort_of, serves}

pub data Site : Type 0 where
  -- a name that is declared, with the offset of the first declaration of it in its set
  declares : Option ℕ → Id → Site
  -- a name that a callback binds, with the offset of the state or name in scope that is called so
  binds : Option ℕ → Id → Site
  -- a use that wants this sort: a type a record, a handler a source or channel, an output or emitter a channel
  refers : Sort → Option (Declared Thing) → Id → Site
  -- a type's use in a field of the record that is declared at this offset
  part_type : ℕ → Option (Declared Thing) → Id → Site
  -- a use after `emit`, with the emitter, or in a place, with the state or name in scope
  picks : Option (Declared Target) → Id → Site

abbrev pub id_at : Site → Id
id_at (declares first x) = x
id_at (binds other x) = x
id_at (refers want found u) = u
id_at (part_type record_at found u) = u
id_at (picks found u) = u

-- what a use refers to
abbrev pub Means : Site → Target → Type 0
Means (declares first x) t = ⊥
Means (binds other x) t = ⊥
Means (refers want found u) t = (d : Declared Thing) × (found ≡ Some d) × (serves want d.what ≡ Some t)
Means (part_type record_at found u) t = (d : Declared Thing) × (found ≡ Some d) × (serves sort.Record d.what ≡ Some t) × (d.at < record_at)
Means (picks found u) t = (d : Declared Target) × (found ≡ Some d) × (d.what ≡ t)

-- what is wrong there
abbrev pub Offends : Site → NameFault → Type 0
Offends (declares first x) f = (at : ℕ) × (first ≡ Some at) × (at ≡ x.at → ⊥) × (f ≡ fault.Twice x.at at)
Offends (binds other x) f = (at : ℕ) × (other ≡ Some at) × (f ≡ fault.Twice x.at at)
Offends (refers want found u) f =
    ((found ≡ None) × (f ≡ fault.Unknown u.at)) ⊎
    ((d : Declared Thing) × (found ≡ Some d) × (serves want d.what ≡ None) × (f ≡ fault.Kind u.at want (sort_of d.what)))
Offends (part_type record_at found u) f = ((t : Target) → Means (part_type record_at found u) t → ⊥) × (f ≡ fault.Unknown u.at)
Offends (picks found u) f = (found ≡ None) × (f ≡ fault.Unknown u.at)

-- a use, and no declaration
abbrev pub IsUse : Site → Type 0
IsUse (declares first x) = ⊥
IsUse (binds other x) = ⊥
IsUse (refers want found u) = Unit {0}
IsUse (part_type record_at found u) = Unit {0}
IsUse (picks found u) = Unit {0}
