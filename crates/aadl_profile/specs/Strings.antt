-- What the strings of a profile text hold: types, fields, emitters and depths.
use Rattle.std.specs.Prelude.{ℕ, ◌+◌, ◌≤◌, List, ◌++◌, All, length, flat_map, codes, decimal, replicate}
use Rattle.tower_types.specs.declared.scalar.Scalar.{Scalar}
use Rattle.tower_types.specs.declared.scalar.Scalar.TheVariants as scalar
use Rattle.tower_syntax.specs.Words.{scalar_word, IsName, IsCount, IsLength, IsBound}
use Rattle.aadl_profile.specs.declared.said.Base.{Base}
use Rattle.aadl_profile.specs.declared.said.Base.TheVariants as base
use Rattle.aadl_profile.specs.declared.said.TypeSaid.{TypeSaid}
use Rattle.aadl_profile.specs.declared.said.FieldSaid.{FieldSaid}
use Rattle.aadl_profile.specs.declared.said.EmitterSaid.{EmitterSaid}

abbrev pub Bytes : Type 0
Bytes = List ℕ

abbrev pub scalar_text : Scalar → Bytes
scalar_text (scalar.Ix n) = codes "(ix " ++ decimal n ++ codes ")"
scalar_text s = scalar_word s

abbrev pub base_text : Base → Bytes
base_text (base.Scalar s) = scalar_text s
base_text (base.Record name) = name

abbrev pub array_head : ℕ → Bytes
array_head n = codes "(array " ++ decimal n ++ codes " "

-- as in a file, with one blank between the children of a list
abbrev pub type_text : TypeSaid → Bytes
type_text t = flat_map array_head t.lengths ++ base_text t.base ++ replicate (length t.lengths) 41

-- `name type`
abbrev pub field_text : FieldSaid → Bytes
field_text f = f.name ++ codes " " ++ type_text f.ty

-- `name channel bound`
abbrev pub emitter_text : EmitterSaid → Bytes
emitter_text e = e.name ++ codes " " ++ e.channel ++ codes " " ++ decimal e.bound

-- ---- which of them may stand in a text

abbrev pub IsScalar : Scalar → Type 0
IsScalar (scalar.Ix n) = IsCount n
IsScalar s = Unit {0}

abbrev pub IsBase : Base → Type 0
IsBase (base.Scalar s) = IsScalar s
IsBase (base.Record name) = IsName name

-- at most 32 deep, where a scalar and the name of a record are 1 deep
pub record IsType (t : TypeSaid) : Type 0 where
  pub lengths : All IsLength t.lengths
  pub base : IsBase t.base
  pub depth : length t.lengths + 1 ≤ 32

pub record IsField (f : FieldSaid) : Type 0 where
  pub name : IsName f.name
  pub ty : IsType f.ty

pub record IsEmitter (e : EmitterSaid) : Type 0 where
  pub name : IsName e.name
  pub channel : IsName e.channel
  pub bound : IsBound e.bound
