-- The rule that lets one task go on.
use Rattle.std.specs.Prelude.{◌≡◌, ℕ, List, Bool, true, false, Option, Some, None, slice_get, refl}
use Rattle.task_code.specs.Policy.{any_names}
use Rattle.task_machine.specs.Policy.{IsLawful}
use Rattle.task_machine.specs.Lawful.{any_is_lawful}

abbrev pub only_where : Option Bool → ℕ → Option ℕ → Option ℕ
only_where (Some true) x other = Some x
only_where _ x other = other

-- task x where it is ready, and otherwise any
abbrev pub only_names : ℕ → List Bool → List (Option ℕ) → ℕ → Option ℕ
only_names x ready holds k = only_where (slice_get ready x) x (any_names ready holds k)

lawful_where : (ready : List Bool) (x : ℕ) (o : Option Bool) (other : Option ℕ) → slice_get ready x ≡ o → IsLawful ready other → IsLawful ready (only_where o x other)
lawful_where ready x None other e h = h
lawful_where ready x (Some true) other e h = e
lawful_where ready x (Some false) other e h = h

pub only_is_lawful : (x : ℕ) (ready : List Bool) (holds : List (Option ℕ)) (k : ℕ) → IsLawful ready (only_names x ready holds k)
only_is_lawful x ready holds k = lawful_where ready x (slice_get ready x) (any_names ready holds k) refl (any_is_lawful ready holds k)
