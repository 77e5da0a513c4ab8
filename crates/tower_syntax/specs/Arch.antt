-- A system, as definitions speak of it. Numbers are places in its lists.
use Rattle.std.specs.Prelude.{ℕ, List, Option}
use Rattle.tower_types.specs.Ty.{Ty, Name, Fields, Records}
use Rattle.tower_types.specs.Value.{Value}
use Rattle.tower_syntax.specs.declared.arch.SourceKind.{SourceKind}
use Rattle.tower_syntax.specs.declared.arch.On.{On}
use Rattle.tower_syntax.specs.declared.arch.Listener.{Listener}
use Rattle.tower_syntax.specs.Tree.{Stmts}

pub record Source : Type 0 where
  pub name : Name
  pub kind : SourceKind
  pub priority : ℕ
  pub message : Ty
  pub depth : Option ℕ

pub record Channel : Type 0 where
  pub name : Name
  pub message : Ty

pub record Output : Type 0 where
  pub name : Name
  pub channel : ℕ

pub record Monitor : Type 0 where
  pub name : Name
  pub states : Fields

pub record Emitter : Type 0 where
  pub name : Name
  pub channel : ℕ
  pub bound : ℕ

pub record Body : Type 0 where
  pub param : Name
  pub binders : Fields
  pub stmts : Stmts

pub record Handler : Type 0 where
  pub name : Name
  pub monitor : ℕ
  pub on : On
  pub emitters : List Emitter
  pub callbacks : List Body

pub record Arch : Type 0 where
  pub version : ℕ
  pub name : Name
  pub records : Records
  pub record_names : List Name
  pub sources : List Source
  pub channels : List Channel
  pub outputs : List Output
  pub monitors : List Monitor
  pub handlers : List Handler
  pub listeners : List Listener

-- an entry of the event record
pub data Entry : Type 0 where
  tick : Entry
  signal : ℕ → Value → Entry

pub record Events : Type 0 where
  pub kinds : List SourceKind
  pub depths : List (Option ℕ)
  pub entries : List Entry
