-- Profile texts, and the first token that none of them has.
use Rattle.std.specs.Prelude.{◌≡◌, ℕ, ◌≤◌, List, [], ◌∷◌, ◌++◌, All, Bool, true, false, nat_le, Option, Some, None, ◌&&◌}
use Rattle.tower_syntax.specs.Words.{IsName, IsPeriod, IsDepth, IsPriority}
use Rattle.aadl_profile.specs.declared.token.Token.{Token}
use Rattle.aadl_profile.specs.declared.said.Id.{Id}
use Rattle.aadl_profile.specs.declared.said.FieldsSaid.{FieldsSaid}
use Rattle.aadl_profile.specs.declared.said.EmittersSaid.{EmittersSaid}
use Rattle.aadl_profile.specs.declared.said.TouchesSaid.{TouchesSaid}
use Rattle.aadl_profile.specs.declared.said.Dispatch.{Dispatch}
use Rattle.aadl_profile.specs.declared.said.Dispatch.TheVariants as dispatch
use Rattle.aadl_profile.specs.declared.said.ThreadSaid.{ThreadSaid}
use Rattle.aadl_profile.specs.declared.said.Declared.{Declared}
use Rattle.aadl_profile.specs.declared.said.Declared.TheVariants as declared
use Rattle.aadl_profile.specs.declared.said.Said.{Said}
use Rattle.aadl_profile.specs.declared.said.Group.{Group}
use Rattle.aadl_profile.specs.declared.said.Group.TheVariants as group
use Rattle.aadl_profile.specs.Strings.{IsType, IsField, IsEmitter}
use Rattle.aadl_profile.specs.Pieces.{Piece, sign, word, named, string, string_at, token_text}
use Rattle.aadl_profile.specs.Lines.{pieces}

-- ---- what may be said. Whether a name is declared, and how often, plays no part in it.

abbrev pub IsNamed : Id → Type 0
IsNamed i = IsName i.name

abbrev pub AreFields : FieldsSaid → Type 0
AreFields fs = All IsField fs.before × IsField fs.last

abbrev pub AreEmitters : Option EmittersSaid → Type 0
AreEmitters None = Unit {0}
AreEmitters (Some es) = All IsEmitter es.before × IsEmitter es.last

abbrev pub AreTouches : Option TouchesSaid → Type 0
AreTouches None = Unit {0}
AreTouches (Some ms) = All IsNamed ms.before × IsNamed ms.last

abbrev pub IsDispatch : Dispatch → Type 0
IsDispatch dispatch.Init = Unit {0}
IsDispatch (dispatch.Period ms) = IsPeriod ms
IsDispatch (dispatch.Signal c) = IsType c.ty

abbrev pub is_deep : Bool → Dispatch → Bool
is_deep deep dispatch.Init = false
is_deep deep _ = deep

-- a depth stands exactly where one has to
abbrev pub IsDeep : Bool → Option ℕ → Type 0
IsDeep true None = ⊥
IsDeep true (Some n) = IsDepth n
IsDeep false None = Unit {0}
IsDeep false (Some n) = ⊥

pub record IsThread (deep : Bool) (t : ThreadSaid) : Type 0 where
  pub id : IsNamed t.id
  pub started : IsDispatch t.dispatch
  pub urgent : IsPriority t.priority
  pub touched : AreTouches t.touches
  pub keeps : IsDeep (is_deep deep t.dispatch) t.depth

abbrev pub IsDeclared : Bool → Declared → Type 0
IsDeclared deep (declared.Record i fs) = IsNamed i × AreFields fs
IsDeclared deep (declared.Channel i c) = IsNamed i × IsType c.ty
IsDeclared deep (declared.Output i on) = IsNamed i × IsNamed on
IsDeclared deep (declared.Handler i m on es) = IsNamed i × (IsNamed m × (IsNamed on × AreEmitters es))
IsDeclared deep (declared.Monitor i) = IsNamed i
IsDeclared deep (declared.Thread t) = IsThread deep t

abbrev pub group_of : Declared → Group
group_of (declared.Record i fs) = group.Records
group_of (declared.Channel i c) = group.Channels
group_of (declared.Output i on) = group.Listeners
group_of (declared.Handler i m on es) = group.Listeners
group_of (declared.Monitor i) = group.Monitors
group_of (declared.Thread t) = group.Threads

abbrev pub rank : Group → ℕ
rank group.Records = 0
rank group.Channels = 1
rank group.Listeners = 2
rank group.Monitors = 3
rank group.Threads = 4

-- the groups stand in their order
abbrev pub InOrder : ℕ → List Declared → Type 0
InOrder n [] = Unit {0}
InOrder n (d ∷ ds) = (n ≤ rank (group_of d)) × InOrder (rank (group_of d)) ds

pub record IsSaid (s : Said) : Type 0 where
  pub name : IsNamed s.id
  pub each : All (IsDeclared s.deep) s.declared
  pub order : InOrder 0 s.declared

-- ---- the tokens that say it

abbrev pub Fits : Piece → Token → Type 0
Fits (named at w) t = (t.at ≡ at) × (t.text ≡ token_text (named at w))
Fits (string_at at w) t = (t.at ≡ at) × (t.text ≡ token_text (string_at at w))
Fits p t = t.text ≡ token_text p

abbrev pub FitAll : List Piece → List Token → Type 0
FitAll [] [] = Unit {0}
FitAll [] (t ∷ ts) = ⊥
FitAll (p ∷ ps) [] = ⊥
FitAll (p ∷ ps) (t ∷ ts) = Fits p t × FitAll ps ts

-- these are the tokens of a profile text, which says this
pub record Says (ts : List Token) (s : Said) : Type 0 where
  pub said : IsSaid s
  pub fits : FitAll (pieces s) ts

-- a profile text begins with these tokens
abbrev pub Begins : List Token → Type 0
Begins ts = (s : Said) × ((more : List Token) × Says (ts ++ more) s)

-- ---- the first fault of tokens

-- whether a token is a number: its first byte is a digit
abbrev pub is_number : List ℕ → Bool
is_number [] = false
is_number (b ∷ bs) = nat_le 48 b && nat_le b 57

-- a number may stand behind these tokens
abbrev pub AwaitsNumber : List Token → Type 0
AwaitsNumber ts = (t : Token) × ((is_number t.text ≡ true) × Begins (ts ++ t ∷ []))

-- a number that stands where a number may stand
abbrev pub IsMisspelt : List Token → Token → Type 0
IsMisspelt before t = (is_number t.text ≡ true) × AwaitsNumber before

pub data WalkFault : Type 0 where
  profile : ℕ → WalkFault
  number : ℕ → WalkFault
  short : WalkFault

-- the first token that no profile text has behind the tokens before it, or that they end too early
pub data IsWalkFault : List Token → WalkFault → Type 0 where
  no_such : (before behind : List Token) (t : Token) → Begins before → (Begins (before ++ t ∷ []) → ⊥) → (IsMisspelt before t → ⊥)
      → IsWalkFault (before ++ t ∷ behind) (profile t.at)
  misspelt : (before behind : List Token) (t : Token) → Begins before → (Begins (before ++ t ∷ []) → ⊥) → IsMisspelt before t
      → IsWalkFault (before ++ t ∷ behind) (number t.at)
  too_early : (ts : List Token) → Begins ts → ((s : Said) → Says ts s → ⊥) → IsWalkFault ts short
