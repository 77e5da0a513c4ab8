-- The canonical text of what a text says, line by line.
use Rattle.std.specs.Prelude.{ℕ, List, [], ◌∷◌, ◌++◌, map, flat_map, codes, decimal, replicate, Bool, true, false, Option, Some, None}
use Rattle.tower_types.specs.Ty.{Name}
use Rattle.aadl_profile.specs.declared.said.Id.{Id}
use Rattle.aadl_profile.specs.declared.said.FieldSaid.{FieldSaid}
use Rattle.aadl_profile.specs.declared.said.FieldsSaid.{FieldsSaid}
use Rattle.aadl_profile.specs.declared.said.Carried.{Carried}
use Rattle.aadl_profile.specs.declared.said.EmitterSaid.{EmitterSaid}
use Rattle.aadl_profile.specs.declared.said.EmittersSaid.{EmittersSaid}
use Rattle.aadl_profile.specs.declared.said.TouchesSaid.{TouchesSaid}
use Rattle.aadl_profile.specs.declared.said.Dispatch.{Dispatch}
use Rattle.aadl_profile.specs.declared.said.Dispatch.TheVariants as dispatch
use Rattle.aadl_profile.specs.declared.said.ThreadSaid.{ThreadSaid}
use Rattle.aadl_profile.specs.declared.said.Declared.{Declared}
use Rattle.aadl_profile.specs.declared.said.Declared.TheVariants as declared
use Rattle.aadl_profile.specs.declared.said.Said.{Said}
use Rattle.aadl_profile.specs.Strings.{Bytes, type_text, field_text, emitter_text}
use Rattle.aadl_profile.specs.Pieces.{Piece, sign, word, named, string, string_at, fixed, listed, Line, joined}

abbrev pub line : ℕ → List Piece → Line
line n ps = record { indent = n; pieces = ps }

-- a name behind the prefix of its kind
abbrev pub own : Bytes → Id → Piece
own prefix i = word (prefix ++ i.name)

abbrev pub ends : ℕ → Bytes → Id → Line
ends n prefix i = line n (fixed (codes "end") ++ own prefix i ∷ fixed (codes ";"))

-- ---- associations: `Name => value;`

abbrev pub end_of_line : List Piece
end_of_line = fixed (codes ";")

-- one of the standard's own
abbrev pub association : Bytes → List Piece → Line
association name value = line 4 (fixed (name ++ codes " =>") ++ value ++ end_of_line)

-- one of the property set `Tower_Profile`
abbrev pub property : Bytes → List Piece → Line
property name value = association (codes "Tower_Profile :: " ++ name) value

abbrev pub in_brackets : List Piece → List Piece
in_brackets ps = fixed (codes "(") ++ listed ps ++ fixed (codes ")")

abbrev pub name_string : Id → Piece
name_string i = string_at i.at i.name

abbrev pub type_string : Carried → Piece
type_string c = string_at c.at (type_text c.ty)

abbrev pub field_string : FieldSaid → Piece
field_string f = string_at f.at (field_text f)

abbrev pub emitter_string : EmitterSaid → Piece
emitter_string e = string_at e.at (emitter_text e)

abbrev pub kind : Bytes → Line
kind w = property (codes "Kind") (string w ∷ [])

abbrev pub carries : Carried → Line
carries c = property (codes "Carries") (type_string c ∷ [])

abbrev pub hears : Id → Line
hears i = property (codes "Hears") (name_string i ∷ [])

abbrev pub fields : FieldsSaid → Line
fields fs = property (codes "Fields") (in_brackets (map field_string (fs.before ++ fs.last ∷ [])))

-- an association without an element is left out
abbrev pub emits : Option EmittersSaid → List Line
emits None = []
emits (Some es) = property (codes "Emits") (in_brackets (map emitter_string (es.before ++ es.last ∷ []))) ∷ []

abbrev pub touches : Option TouchesSaid → List Line
touches None = []
touches (Some ms) = property (codes "Touches") (in_brackets (map name_string (ms.before ++ ms.last ∷ []))) ∷ []

abbrev pub depth : Option ℕ → List Line
depth None = []
depth (Some n) = property (codes "Depth") (string (decimal n) ∷ []) ∷ []

abbrev pub protocol : Bytes → Line
protocol w = association (codes "Dispatch_Protocol") (word w ∷ [])

abbrev pub priority : ℕ → Line
priority n = association (codes "Priority") (word (decimal n) ∷ [])

abbrev pub dispatched : Dispatch → ℕ → List Line
dispatched dispatch.Init p = protocol (codes "Aperiodic") ∷ priority p ∷ kind (codes "init") ∷ []
dispatched (dispatch.Period ms) p =
    protocol (codes "Periodic") ∷ association (codes "Period") (word (decimal ms) ∷ fixed (codes "ms")) ∷ priority p ∷ kind (codes "period") ∷ []
dispatched (dispatch.Signal c) p = protocol (codes "Aperiodic") ∷ priority p ∷ kind (codes "signal") ∷ carries c ∷ []

-- ---- declarations

-- a classifier with its name and its properties
abbrev pub classifier : Bytes → Bytes → Id → List Line → List Line
classifier category prefix i ls =
    line 2 (fixed category ++ named i.at (prefix ++ i.name) ∷ []) ∷ line 2 (fixed (codes "properties")) ∷ ls ++ ends 2 prefix i ∷ []

-- an implementation, with what stands in it
abbrev pub implementation : Bytes → Piece → List Line → List Line
implementation category name ls =
    line 2 (fixed category ++ fixed (codes "implementation") ++ name ∷ fixed (codes ". impl"))
    ∷ ls ++ line 2 (fixed (codes "end") ++ name ∷ fixed (codes ". impl ;")) ∷ []

abbrev pub thread_lines : ThreadSaid → List Line
thread_lines t =
    classifier (codes "thread") (codes "src_") t.id (dispatched t.dispatch t.priority ++ touches t.touches ++ depth t.depth)
    ++ implementation (codes "thread") (own (codes "src_") t.id) []

abbrev pub declared_lines : Declared → List Line
declared_lines (declared.Record i fs) = classifier (codes "data") (codes "rec_") i (fields fs ∷ [])
declared_lines (declared.Channel i c) = classifier (codes "data") (codes "chan_") i (carries c ∷ [])
declared_lines (declared.Output i on) = classifier (codes "data") (codes "out_") i (kind (codes "output") ∷ hears on ∷ [])
declared_lines (declared.Handler i m on es) =
    classifier (codes "subprogram") (codes "hnd_") i (property (codes "Part_Of") (name_string m ∷ []) ∷ hears on ∷ emits es)
declared_lines (declared.Monitor i) = classifier (codes "data") (codes "mon_") i (kind (codes "monitor") ∷ [])
declared_lines (declared.Thread t) = thread_lines t

-- ---- the process, the system, the package

abbrev pub thread_part : Declared → List Line
thread_part (declared.Thread t) = line 4 (own (codes "t_") t.id ∷ fixed (codes ": thread") ++ own (codes "src_") t.id ∷ fixed (codes ". impl ;")) ∷ []
thread_part _ = []

abbrev pub monitor_part : Declared → List Line
monitor_part (declared.Monitor i) = line 4 (own (codes "m_") i ∷ fixed (codes ": data") ++ own (codes "mon_") i ∷ fixed (codes ";")) ∷ []
monitor_part _ = []

-- the threads, then the monitors
abbrev pub parts : List Declared → List Line
parts ds = flat_map thread_part ds ++ flat_map monitor_part ds

-- a section without a line is left out
abbrev pub subcomponents : List Line → List Line
subcomponents [] = []
subcomponents (l ∷ ls) = line 2 (fixed (codes "subcomponents")) ∷ l ∷ ls

-- a component type in which nothing stands
abbrev pub bare_type : Bytes → Bytes → List Line
bare_type category name = line 2 (fixed (category ++ codes " " ++ name)) ∷ line 2 (fixed (codes "end " ++ name ++ codes " ;")) ∷ []

abbrev pub process_lines : List Declared → List Line
process_lines ds = bare_type (codes "process") (codes "tasks") ++ implementation (codes "process") (word (codes "tasks")) (subcomponents (parts ds))

abbrev pub system_lines : List Line
system_lines =
    bare_type (codes "system") (codes "whole")
    ++ implementation (codes "system") (word (codes "whole")) (subcomponents (line 4 (fixed (codes "p : process tasks . impl ;")) ∷ []))

abbrev pub text_property : Bytes → Line
text_property name = line 2 (fixed (name ++ codes " : aadlstring applies to ( all ) ;"))

abbrev pub list_property : Bytes → Line
list_property name = line 2 (fixed (name ++ codes " : list of aadlstring applies to ( all ) ;"))

abbrev pub depth_property : Bool → List Line
depth_property true = text_property (codes "Depth") ∷ []
depth_property false = []

abbrev pub property_set : Bool → List Line
property_set deep =
    line 0 (fixed (codes "property set Tower_Profile is"))
    ∷ text_property (codes "Kind") ∷ text_property (codes "Carries") ∷ text_property (codes "Hears") ∷ text_property (codes "Part_Of")
    ∷ list_property (codes "Fields") ∷ list_property (codes "Emits") ∷ list_property (codes "Touches")
    ∷ depth_property deep ++ line 0 (fixed (codes "end Tower_Profile ;")) ∷ []

abbrev pub package_lines : Id → List Declared → List Line
package_lines i ds =
    line 0 (fixed (codes "package") ++ named i.at (codes "twr_" ++ i.name) ∷ [])
    ∷ line 0 (fixed (codes "public")) ∷ line 2 (fixed (codes "with Tower_Profile ;"))
    ∷ flat_map declared_lines ds ++ process_lines ds ++ system_lines ++ ends 0 (codes "twr_") i ∷ []

abbrev pub lines : Said → List Line
lines s = property_set s.deep ++ line 0 [] ∷ package_lines s.id s.declared

-- ---- what follows from the lines

-- the tokens, one after another
abbrev pub pieces : Said → List Piece
pieces s = flat_map (λ l. l.pieces) (lines s)

abbrev pub line_text : Line → Bytes
line_text l = replicate l.indent 32 ++ joined l.pieces ++ 10 ∷ []

abbrev pub text : Said → Bytes
text s = flat_map line_text (lines s)
