-- What each stage tells is the fault of the text.
use Rattle.std.proofs.Common.{◌≡◌, ◌≢◌, ◌⊎◌, inl, inr, ℕ, List, Result, Ok, Err, refl, sym, ap, subst}
use Rattle.std.specs.Result.{IsErrAnd, IfErr}
use Rattle.tower_syntax.specs.RawTree.{Id, Link, Raw}
use Rattle.tower_syntax.specs.Arch.{Arch}
use Rattle.tower_reader.specs.declared.fault.ReadFault.{ReadFault}
use Rattle.tower_reader.specs.declared.fault.ReadFault.TheVariants as read
use Rattle.tower_reader.specs.Spelled.{Spells}
use Rattle.tower_reader.specs.Faults as reading
use Rattle.arch_names.specs.declared.fault.NameFault.{NameFault}
use Rattle.arch_names.specs.declared.fault.NameFault.TheVariants as name
use Rattle.arch_names.specs.Resolved.{IsLinked}
use Rattle.arch_names.specs.Resolved as named
use Rattle.arch_types.specs.declared.fault.TypeFault.{TypeFault}
use Rattle.arch_types.specs.declared.fault.TypeFault.TheVariants as types
use Rattle.arch_types.specs.File.{IsChecked}
use Rattle.arch_types.specs.File as typed
use Rattle.arch_types.specs.Offence as typing
use Rattle.arch_checks.specs.declared.fault.Fault.{Fault}
use Rattle.arch_checks.specs.declared.fault.Fault.TheVariants as fault
use Rattle.arch_checks.specs.Faults.{of_read, of_name, of_type}
use Rattle.arch_checks.specs.Offences.{IsNamed, IsFault}
use Rattle.arch_checks.proofs.Order.{Typed, read_fault, name_fault, type_fault}

-- want of memory, or the fault of the text
abbrev pub Told : List ℕ → Fault → Type 0
Told bs g = (g ≡ fault.NoMemory) ⊎ IsFault bs g

pub read_told : (bs : List ℕ) (f : ReadFault) → (f ≢ read.NoMemory → reading.IsFault bs f) → Told bs (of_read f)
read_told bs (read.Long limit) h = inr (read_fault bs (read.Long limit) (h (λ x. cc)))
read_told bs (read.Byte at) h = inr (read_fault bs (read.Byte at) (h (λ x. cc)))
read_told bs (read.Unopened at) h = inr (read_fault bs (read.Unopened at) (h (λ x. cc)))
read_told bs (read.Nest at) h = inr (read_fault bs (read.Nest at) (h (λ x. cc)))
read_told bs (read.Unclosed at) h = inr (read_fault bs (read.Unclosed at) (h (λ x. cc)))
read_told bs read.Empty h = inr (read_fault bs read.Empty (h (λ x. cc)))
read_told bs (read.Form at) h = inr (read_fault bs (read.Form at) (h (λ x. cc)))
read_told bs (read.Number at) h = inr (read_fault bs (read.Number at) (h (λ x. cc)))
read_told bs (read.Length at) h = inr (read_fault bs (read.Length at) (h (λ x. cc)))
read_told bs read.NoMemory h = inl refl

pub name_told : (bs : List ℕ) (raw : Raw Id) (f : NameFault) → Spells bs raw → (f ≡ name.NoMemory) ⊎ named.IsFirst (named.Offences raw) f → Told bs (of_name f)
name_told bs raw f s (inl e) = inl (ap of_name e)
name_told bs raw f s (inr k) = inr (name_fault bs raw f s k)

pub type_told : (bs : List ℕ) (t : Raw Link) (f : TypeFault) (n : IsNamed bs t) → named.IsClean (named.Offences n.raw) → (f ≡ types.NoMemory) ⊎ typing.IsFirst (typed.Offence t) f → Told bs (of_type f)
type_told bs t f n c (inl e) = inl (ap of_type e)
type_told bs t f n c (inr k) = inr (type_fault bs t f n c k)

-- a stage that speaks of the system
pub stage_told : (bs : List ℕ) (P : Fault → Type 0) (f : Fault) → ((k : Fault) → P k → IsFault bs k) → (f ≡ fault.NoMemory) ⊎ P f → Told bs f
stage_told bs P f h (inl e) = inl e
stage_told bs P f h (inr p) = inr (h f p)

-- an exit with a fault
pub exit_told : {T : Type 0} (bs : List ℕ) (r : Result T Fault) (f : Fault) → IsErrAnd r (λ x. x ≡ f) → Told bs f → IfErr r (Told bs)
exit_told bs (Ok x) f e h = tt
exit_told bs (Err g) f e h = subst (Told bs) (sym e) h

-- a text that spells a tree without offence in its names
abbrev pub is_named : (bs : List ℕ) (raw : Raw Id) (t : Raw Link) → Spells bs raw → IsLinked raw t → IsNamed bs t
is_named bs raw t s l = record { raw = raw; spelled = s; linked = l }

pub is_typed : (bs : List ℕ) (raw : Raw Id) (t : Raw Link) (arch : Arch) → Spells bs raw → IsLinked raw t → named.IsClean (named.Offences raw) → IsChecked t arch → typing.IsClean (typed.Offence t) → Typed bs arch
is_typed bs raw t arch s l names checked clean = record {
  system = record { named = t; is = is_named bs raw t s l; checked = checked };
  names = names;
  types = clean;
}
