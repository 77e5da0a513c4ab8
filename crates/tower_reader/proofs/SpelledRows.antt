-- What each row of the table makes of printable parts can be printed, and is printed as the list that it was read from.
use Rattle.std.proofs.Common.{◌≡◌, ℕ, zero, suc, ◌+◌, ◌<◌, ◌≤◌, List, [], ◌∷◌, map, length, filter_map, Bool, true, false, ◌&&◌, Option, Some, None, All, refl, ap, sym, ◌∙◌, subst, arith}
use Rattle.std.specs.List.{cons_option}
use Rattle.std.proofs.lemmas.List.{get_or_past}
use Rattle.std.proofs.lemmas.List.Elements.{All-cons}
use Rattle.tower_types.specs.declared.scalar.Scalar.{Scalar}
use Rattle.tower_types.specs.declared.scalar.Scalar.TheVariants as scalar
use Rattle.tower_types.specs.declared.scalar.BinOp.{BinOp}
use Rattle.tower_types.specs.declared.scalar.UnOp.{UnOp}
use Rattle.tower_syntax.specs.RawTree.{Id, RawStmt, Raw}
use Rattle.tower_syntax.specs.RawView.{raw_stmts_of}
use Rattle.tower_syntax.specs.Words.{IsName, IsPriority, IsPeriod, IsCount, IsLength, IsBound, IsDepth, IsLiteral, IsWithin}
use Rattle.tower_syntax.specs.Form.{Form, atom}
use Rattle.tower_syntax.specs.Form.{row as row_form}
use Rattle.tower_syntax.specs.Printed.{name_form, number_form, signed_form, type_form, place_form, expr_form, stmt_form, stmt_forms, field_form, hpart_form, part_form, item_form, raw_form}
use Rattle.tower_syntax.specs.Printable.{IsPrintableType, IsPrintablePlace, IsPrintableExpr, IsPrintableStmt, ArePrintableStmts, IsPrintableField, IsPrintableHpart, IsPrintablePart, IsPrintableItem}
use Rattle.tower_reader.specs.declared.table.Place.{Place}
use Rattle.tower_reader.specs.declared.table.Place.TheVariants as place
use Rattle.tower_reader.specs.declared.table.Row.{Row}
use Rattle.tower_reader.specs.declared.table.Row.TheVariants as row
use Rattle.tower_reader.specs.declared.table.ItemRow.TheVariants as item
use Rattle.tower_reader.specs.declared.table.PartRow.TheVariants as part
use Rattle.tower_reader.specs.declared.table.StmtRow.TheVariants as stmt
use Rattle.tower_reader.specs.declared.table.ExprRow.TheVariants as expr
use Rattle.tower_reader.specs.Table.{rule, rows, head, place_at, has_more}
use Rattle.tower_reader.specs.Part.{Part, nothing, a_name, a_number, a_literal, a_type, a_place, an_expr, a_stmt, a_block, a_field, an_hpart, a_part, an_item, a_tower, as_name, as_number, as_byte, as_literal, as_type, as_place, as_expr, as_block, as_tower, if_stmt, if_field, if_hpart, if_part, if_item, stmts, build}
use Rattle.tower_reader.proofs.Words.{AllOf}

-- A file without what is said of its nesting.
abbrev pub IsFile : Raw Id → Type 0
IsFile r = IsWithin 1 2 r.version × IsName r.name.name × AllOf (IsPrintableItem r.version) r.items

-- it is there, and so
abbrev pub Just : {X : Type 0} → (X → Type 0) → Option X → Type 0
Just P None = ⊥
Just P (Some x) = P x

-- a part at a place can be printed
abbrev pub IsKept : Place → Part → Type 0
IsKept place.Nowhere x = Unit {0}
IsKept place.Name x = IsName (as_name x).name
IsKept place.Use x = IsName (as_name x).name
IsKept place.Priority x = IsPriority (as_byte x)
IsKept place.Period x = IsPeriod (as_number x)
IsKept place.Depth x = IsDepth (as_number x)
IsKept place.Bound x = IsBound (as_number x)
IsKept place.Size x = IsCount (as_number x)
IsKept place.Times x = IsCount (as_number x)
IsKept place.Length x = IsLength (as_number x)
IsKept place.Literal x = IsLiteral (as_literal x)
IsKept place.Tower x = IsFile (as_tower x)
IsKept place.Item x = Just (IsPrintableItem 1) (if_item x)
IsKept place.Item2 x = Just (IsPrintableItem 2) (if_item x)
IsKept place.Field x = Just IsPrintableField (if_field x)
IsKept place.Part x = Just IsPrintablePart (if_part x)
IsKept place.Hpart x = Just IsPrintableHpart (if_hpart x)
IsKept place.Type x = IsPrintableType (as_type x)
IsKept place.Stmt x = Just IsPrintableStmt (if_stmt x)
IsKept place.Then x = ArePrintableStmts (as_block x)
IsKept place.Else x = ArePrintableStmts (as_block x)
IsKept place.Place x = IsPrintablePlace (as_place x)
IsKept place.Expr x = IsPrintableExpr (as_expr x)

abbrev form_if : {X : Type 0} → (X → Form) → Option X → Form
form_if f None = atom []
form_if f (Some x) = f x

-- what it is printed as
abbrev pub form_at : Place → Part → Form
form_at place.Nowhere x = atom []
form_at place.Name x = name_form (as_name x)
form_at place.Use x = name_form (as_name x)
form_at place.Priority x = number_form (as_byte x)
form_at place.Period x = number_form (as_number x)
form_at place.Depth x = number_form (as_number x)
form_at place.Bound x = number_form (as_number x)
form_at place.Size x = number_form (as_number x)
form_at place.Times x = number_form (as_number x)
form_at place.Length x = number_form (as_number x)
form_at place.Literal x = signed_form (as_literal x)
form_at place.Tower x = raw_form (as_tower x)
form_at place.Item x = form_if item_form (if_item x)
form_at place.Item2 x = form_if item_form (if_item x)
form_at place.Field x = form_if field_form (if_field x)
form_at place.Part x = form_if part_form (if_part x)
form_at place.Hpart x = form_if hpart_form (if_hpart x)
form_at place.Type x = type_form (as_type x)
form_at place.Stmt x = form_if stmt_form (if_stmt x)
form_at place.Then x = row_form (head (row.Stmt stmt.Then)) (stmt_forms (as_block x))
form_at place.Else x = row_form (head (row.Stmt stmt.Else)) (stmt_forms (as_block x))
form_at place.Place x = place_form (as_place x)
form_at place.Expr x = expr_form (as_expr x)

-- the parts of a row from the i-th on
abbrev pub AreKept : Row → ℕ → List Part → Type 0
AreKept r i [] = Unit {0}
AreKept r i (x ∷ xs) = IsKept (place_at r i) x × AreKept r (i + 1) xs

abbrev pub forms_at : Row → ℕ → List Part → List Form
forms_at r i [] = []
forms_at r i (x ∷ xs) = form_at (place_at r i) x ∷ forms_at r (i + 1) xs

-- a part can be printed at a place, as this form
pub record IsMade (p : Place) (x : Part) (f : Form) : Type 0 where
  pub kept : IsKept p x
  pub formed : form_at p x ≡ f

-- what a row makes of its children's parts, and the form that it is printed as, are so
abbrev pub Gives : (Part → Form → Type 0) → Row → Type 0
Gives C r = (at : ℕ) (xs : List Part)
    → length (rule r).places ≤ length xs → (has_more (rule r).more ≡ false → length xs ≤ length (rule r).places)
    → AreKept r 0 xs → C (build r at xs) (row_form (head r) (forms_at r 0 xs))

-- a row of a place
abbrev pub Makes : Place → Row → Type 0
Makes p r = Gives (IsMade p) r

-- ---- rows with one, two, three and four children, and no more

module _ (C : Part → Form → Type 0) (r : Row) where
  one : length (rule r).places ≡ 1 → has_more (rule r).more ≡ false
      → ((at : ℕ) (x : Part) → IsKept (place_at r 0) x → C (build r at (x ∷ [])) (row_form (head r) (form_at (place_at r 0) x ∷ [])))
      → Gives C r
  one e m made at [] k l h = absurd (omega (arith, e, k))
  one e m made at (x ∷ []) k l h = made at x h.0
  one e m made at (x ∷ y ∷ xs) k l h = absurd (omega (arith, e, l m))

  two : length (rule r).places ≡ 2 → has_more (rule r).more ≡ false
      → ((at : ℕ) (x y : Part) → IsKept (place_at r 0) x → IsKept (place_at r 1) y → C (build r at (x ∷ y ∷ [])) (row_form (head r) (form_at (place_at r 0) x ∷ form_at (place_at r 1) y ∷ [])))
      → Gives C r
  two e m made at [] k l h = absurd (omega (arith, e, k))
  two e m made at (x ∷ []) k l h = absurd (omega (arith, e, k))
  two e m made at (x ∷ y ∷ []) k l h = made at x y h.0 h.1.0
  two e m made at (x ∷ y ∷ z ∷ xs) k l h = absurd (omega (arith, e, l m))

  three : length (rule r).places ≡ 3 → has_more (rule r).more ≡ false
      → ((at : ℕ) (x y z : Part) → IsKept (place_at r 0) x → IsKept (place_at r 1) y → IsKept (place_at r 2) z → C (build r at (x ∷ y ∷ z ∷ [])) (row_form (head r) (form_at (place_at r 0) x ∷ form_at (place_at r 1) y ∷ form_at (place_at r 2) z ∷ [])))
      → Gives C r
  three e m made at [] k l h = absurd (omega (arith, e, k))
  three e m made at (x ∷ []) k l h = absurd (omega (arith, e, k))
  three e m made at (x ∷ y ∷ []) k l h = absurd (omega (arith, e, k))
  three e m made at (x ∷ y ∷ z ∷ []) k l h = made at x y z h.0 h.1.0 h.1.1.0
  three e m made at (x ∷ y ∷ z ∷ u ∷ xs) k l h = absurd (omega (arith, e, l m))

  four : length (rule r).places ≡ 4 → has_more (rule r).more ≡ false
      → ((at : ℕ) (x y z u : Part) → IsKept (place_at r 0) x → IsKept (place_at r 1) y → IsKept (place_at r 2) z → IsKept (place_at r 3) u → C (build r at (x ∷ y ∷ z ∷ u ∷ [])) (row_form (head r) (form_at (place_at r 0) x ∷ form_at (place_at r 1) y ∷ form_at (place_at r 2) z ∷ form_at (place_at r 3) u ∷ [])))
      → Gives C r
  four e m made at [] k l h = absurd (omega (arith, e, k))
  four e m made at (x ∷ []) k l h = absurd (omega (arith, e, k))
  four e m made at (x ∷ y ∷ []) k l h = absurd (omega (arith, e, k))
  four e m made at (x ∷ y ∷ z ∷ []) k l h = absurd (omega (arith, e, k))
  four e m made at (x ∷ y ∷ z ∷ u ∷ []) k l h = made at x y z u h.0 h.1.0 h.1.1.0 h.1.1.1.0
  four e m made at (x ∷ y ∷ z ∷ u ∷ v ∷ xs) k l h = absurd (omega (arith, e, l m))

-- ---- rows with more children, which are of one kind

-- parts of one kind that can be printed, and the forms that they are printed as
record AreAll {X : Type 0} (of : Part → Option X) (P : X → Type 0) (to_form : X → Form) (xs : List Part) (fs : List Form) : Type 0 where
  kept : AllOf P (filter_map of xs)
  formed : map to_form (filter_map of xs) ≡ fs
  counted : length (filter_map of xs) ≡ length xs

module _ {X : Type 0} (of : Part → Option X) (P : X → Type 0) (to_form : X → Form) (q : Place)
    (is : (x : Part) → IsKept q x → Just P (of x)) (said : (x : Part) → form_at q x ≡ form_if to_form (of x)) where
  all_by : (o : Option X) (x : Part) (xs : List Part) (fs : List Form) → of x ≡ o → Just P o → AreAll of P to_form xs fs → AreAll of P to_form (x ∷ xs) (form_if to_form o ∷ fs)
  all_by None x xs fs e h k = absurd h
  all_by (Some y) x xs fs e h k =
      let c : filter_map of (x ∷ xs) ≡ y ∷ filter_map of xs = ap (λ o. cons_option o (filter_map of xs)) e in
      record {
        kept = subst (AllOf P) (sym c) (h, k.kept);
        formed = ap (map to_form) c ∙ ap (λ fs. to_form y ∷ fs) k.formed;
        counted = ap length c ∙ ap suc k.counted;
      }

  all_of : (r : Row) (i : ℕ) (xs : List Part) → ((j : ℕ) → i ≤ j → place_at r j ≡ q) → AreKept r i xs → AreAll of P to_form xs (forms_at r i xs)
  all_of r i [] e h = record { kept = tt; formed = refl; counted = refl }
  all_of r i (x ∷ xs) e h =
      let k : IsKept q x = subst (λ p. IsKept p x) (e i (omega arith)) h.0 in
      let f : form_if to_form (of x) ≡ form_at (place_at r i) x = sym (ap (λ p. form_at p x) (e i (omega arith)) ∙ said x) in
      subst (λ f. AreAll of P to_form (x ∷ xs) (f ∷ forms_at r (i + 1) xs)) f
      (all_by (of x) x xs (forms_at r (i + 1) xs) refl (is x k) (all_of r (i + 1) xs (λ j l. e j (omega (arith, l))) h.1))

pub each : {X : Type 0} (P : X → Type 0) (xs : List X) → AllOf P xs → All P xs
each P [] h = λ k d l. absurd (omega (arith, l))
each P (x ∷ xs) h = All-cons P x xs h.0 (each P xs h.1)

-- statements

are_stmts : (ss : List (RawStmt Id)) → AllOf IsPrintableStmt ss → ArePrintableStmts (raw_stmts_of ss)
are_stmts [] h = tt
are_stmts (s ∷ ss) h = (h.0, are_stmts ss h.1)

stmts_formed : (ss : List (RawStmt Id)) → stmt_forms (raw_stmts_of ss) ≡ map stmt_form ss
stmts_formed [] = refl
stmts_formed (s ∷ ss) = ap (λ fs. stmt_form s ∷ fs) (stmts_formed ss)

record AreStmts (xs : List Part) (fs : List Form) : Type 0 where
  kept : ArePrintableStmts (stmts xs)
  formed : stmt_forms (stmts xs) ≡ fs

all_stmts : (r : Row) (i : ℕ) (xs : List Part) → ((j : ℕ) → i ≤ j → place_at r j ≡ place.Stmt) → AreKept r i xs → AreStmts xs (forms_at r i xs)
all_stmts r i xs e h =
    let a = all_of if_stmt IsPrintableStmt stmt_form place.Stmt (λ x k. k) (λ x. refl) r i xs e h in
    record { kept = are_stmts (filter_map if_stmt xs) a.kept; formed = stmts_formed (filter_map if_stmt xs) ∙ a.formed }

-- ---- the rows

makes_tower : Makes place.Tower row.Tower
makes_tower at [] k l h = absurd (omega (arith, k))
makes_tower at (x ∷ xs) k l h =
    let a = all_of if_item (IsPrintableItem 1) item_form place.Item (λ x k. k) (λ x. refl) row.Tower 1 xs (λ j l. get_or_past (place.Name ∷ []) j place.Item l) h.1 in
    record { kept = ((omega arith, omega arith), h.0, a.kept); formed = ap (λ fs. row_form (head row.Tower) (name_form (as_name x) ∷ fs)) a.formed }

makes_tower2 : Makes place.Tower row.Tower2
makes_tower2 at [] k l h = absurd (omega (arith, k))
makes_tower2 at (x ∷ xs) k l h =
    let a = all_of if_item (IsPrintableItem 2) item_form place.Item2 (λ x k. k) (λ x. refl) row.Tower2 1 xs (λ j l. get_or_past (place.Name ∷ []) j place.Item2 l) h.1 in
    record { kept = ((omega arith, omega arith), h.0, a.kept); formed = ap (λ fs. row_form (head row.Tower2) (name_form (as_name x) ∷ fs)) a.formed }

-- an item of a version
record IsItem (version : ℕ) (x : Part) (f : Form) : Type 0 where
  kept : Just (IsPrintableItem version) (if_item x)
  formed : form_if item_form (if_item x) ≡ f

abbrev MakesItem : ℕ → Row → Type 0
MakesItem version r = Gives (IsItem version) r

field_at : (j : ℕ) → 1 ≤ j → place_at (row.Item item.Record) j ≡ place.Field
field_at zero l = absurd (omega (arith, l))
field_at (suc zero) l = refl
field_at (suc (suc j)) l = get_or_past (place.Name ∷ place.Field ∷ []) (suc (suc j)) place.Field (omega arith)

makes_record : (version : ℕ) → MakesItem version (row.Item item.Record)
makes_record version at [] k l h = absurd (omega (arith, k))
makes_record version at (x ∷ []) k l h = absurd (omega (arith, k))
makes_record version at (x ∷ y ∷ xs) k l h =
    let a = all_of if_field IsPrintableField field_form place.Field (λ x k. k) (λ x. refl) (row.Item item.Record) 1 (y ∷ xs) field_at h.1 in
    record {
      kept = (h.0, omega (arith, a.counted), each IsPrintableField (filter_map if_field (y ∷ xs)) a.kept);
      formed = ap (λ fs. row_form (head (row.Item item.Record)) (name_form (as_name x) ∷ fs)) a.formed;
    }

makes_init : (version : ℕ) → MakesItem version (row.Item item.Init)
makes_init version = two (IsItem version) (row.Item item.Init) refl refl (λ at x y h k. record { kept = (h, k); formed = refl })

makes_period : MakesItem 1 (row.Item item.Period)
makes_period = three (IsItem 1) (row.Item item.Period) refl refl (λ at x y z h k l. record { kept = (h, k, l, refl); formed = refl })

makes_period2 : MakesItem 2 (row.Item item.Period2)
makes_period2 = four (IsItem 2) (row.Item item.Period2) refl refl (λ at x y z u h k l m. record { kept = (h, k, l, (refl, m)); formed = refl })

makes_signal : MakesItem 1 (row.Item item.Signal)
makes_signal = three (IsItem 1) (row.Item item.Signal) refl refl (λ at x y z h k l. record { kept = (h, k, l, refl); formed = refl })

makes_signal2 : MakesItem 2 (row.Item item.Signal2)
makes_signal2 = four (IsItem 2) (row.Item item.Signal2) refl refl (λ at x y z u h k l m. record { kept = (h, k, l, (refl, m)); formed = refl })

makes_channel : (version : ℕ) → MakesItem version (row.Item item.Channel)
makes_channel version = two (IsItem version) (row.Item item.Channel) refl refl (λ at x y h k. record { kept = (h, k); formed = refl })

makes_output : (version : ℕ) → MakesItem version (row.Item item.Output)
makes_output version = two (IsItem version) (row.Item item.Output) refl refl (λ at x y h k. record { kept = (h, k); formed = refl })

makes_monitor : (version : ℕ) → MakesItem version (row.Item item.Monitor)
makes_monitor version at [] k l h = absurd (omega (arith, k))
makes_monitor version at (x ∷ xs) k l h =
    let a = all_of if_part IsPrintablePart part_form place.Part (λ x k. k) (λ x. refl) (row.Item item.Monitor) 1 xs (λ j l. get_or_past (place.Name ∷ []) j place.Part l) h.1 in
    record {
      kept = (h.0, each IsPrintablePart (filter_map if_part xs) a.kept);
      formed = ap (λ fs. row_form (head (row.Item item.Monitor)) (name_form (as_name x) ∷ fs)) a.formed;
    }

-- at the place of its version

item_1 : (r : Row) → MakesItem 1 r → Makes place.Item r
item_1 r m at xs k l h = let i = m at xs k l h in record { kept = i.kept; formed = i.formed }

item_2 : (r : Row) → MakesItem 2 r → Makes place.Item2 r
item_2 r m at xs k l h = let i = m at xs k l h in record { kept = i.kept; formed = i.formed }

makes_field : Makes place.Field (row.Part part.Field)
makes_field = two (IsMade place.Field) (row.Part part.Field) refl refl (λ at x y h k. record { kept = (h, k); formed = refl })

makes_state : Makes place.Part (row.Part part.State)
makes_state = two (IsMade place.Part) (row.Part part.State) refl refl (λ at x y h k. record { kept = (h, k); formed = refl })

makes_handler : Makes place.Part (row.Part part.Handler)
makes_handler at [] k l h = absurd (omega (arith, k))
makes_handler at (x ∷ []) k l h = absurd (omega (arith, k))
makes_handler at (x ∷ y ∷ xs) k l h =
    let a = all_of if_hpart IsPrintableHpart hpart_form place.Hpart (λ x k. k) (λ x. refl) (row.Part part.Handler) 2 xs (λ j l. get_or_past (place.Name ∷ place.Use ∷ []) j place.Hpart l) h.1.1 in
    record {
      kept = (h.0, h.1.0, each IsPrintableHpart (filter_map if_hpart xs) a.kept);
      formed = ap (λ fs. row_form (head (row.Part part.Handler)) (name_form (as_name x) ∷ name_form (as_name y) ∷ fs)) a.formed;
    }

makes_emitter : Makes place.Hpart (row.Part part.Emitter)
makes_emitter = three (IsMade place.Hpart) (row.Part part.Emitter) refl refl (λ at x y z h k l. record { kept = (h, k, l); formed = refl })

makes_callback : Makes place.Hpart (row.Part part.Callback)
makes_callback at [] k l h = absurd (omega (arith, k))
makes_callback at (x ∷ xs) k l h =
    let a = all_stmts (row.Part part.Callback) 1 xs (λ j l. get_or_past (place.Name ∷ []) j place.Stmt l) h.1 in
    record { kept = (h.0, a.kept); formed = ap (λ fs. row_form (head (row.Part part.Callback)) (name_form (as_name x) ∷ fs)) a.formed }

makes_ix : Makes place.Type (row.Part part.Ix)
makes_ix = one (IsMade place.Type) (row.Part part.Ix) refl refl (λ at x h. record { kept = h; formed = refl })

makes_array : Makes place.Type (row.Part part.Array)
makes_array = two (IsMade place.Type) (row.Part part.Array) refl refl (λ at x y h k. record { kept = (h, k); formed = refl })

makes_let : Makes place.Stmt (row.Stmt stmt.Let)
makes_let = two (IsMade place.Stmt) (row.Stmt stmt.Let) refl refl (λ at x y h k. record { kept = (h, k); formed = refl })

makes_local : Makes place.Stmt (row.Stmt stmt.Local)
makes_local = two (IsMade place.Stmt) (row.Stmt stmt.Local) refl refl (λ at x y h k. record { kept = (h, k); formed = refl })

makes_set : Makes place.Stmt (row.Stmt stmt.Set)
makes_set = two (IsMade place.Stmt) (row.Stmt stmt.Set) refl refl (λ at x y h k. record { kept = (h, k); formed = refl })

makes_copy : Makes place.Stmt (row.Stmt stmt.Copy)
makes_copy = two (IsMade place.Stmt) (row.Stmt stmt.Copy) refl refl (λ at x y h k. record { kept = (h, k); formed = refl })

makes_if : Makes place.Stmt (row.Stmt stmt.If)
makes_if = three (IsMade place.Stmt) (row.Stmt stmt.If) refl refl (λ at x y z h k l. record { kept = (h, k, l); formed = refl })

makes_then : Makes place.Then (row.Stmt stmt.Then)
makes_then at xs k l h =
    let a = all_stmts (row.Stmt stmt.Then) 0 xs (λ j l. get_or_past [] j place.Stmt l) h in
    record { kept = a.kept; formed = ap (row_form (head (row.Stmt stmt.Then))) a.formed }

makes_else : Makes place.Else (row.Stmt stmt.Else)
makes_else at xs k l h =
    let a = all_stmts (row.Stmt stmt.Else) 0 xs (λ j l. get_or_past [] j place.Stmt l) h in
    record { kept = a.kept; formed = ap (row_form (head (row.Stmt stmt.Else))) a.formed }

makes_for : Makes place.Stmt (row.Stmt stmt.For)
makes_for at [] k l h = absurd (omega (arith, k))
makes_for at (x ∷ []) k l h = absurd (omega (arith, k))
makes_for at (x ∷ y ∷ xs) k l h =
    let a = all_stmts (row.Stmt stmt.For) 2 xs (λ j l. get_or_past (place.Name ∷ place.Times ∷ []) j place.Stmt l) h.1.1 in
    record { kept = (h.0, h.1.0, a.kept); formed = ap (λ fs. row_form (head (row.Stmt stmt.For)) (name_form (as_name x) ∷ number_form (as_number y) ∷ fs)) a.formed }

makes_emit : Makes place.Stmt (row.Stmt stmt.Emit)
makes_emit = two (IsMade place.Stmt) (row.Stmt stmt.Emit) refl refl (λ at x y h k. record { kept = (h, k); formed = refl })

-- a place, which may be read

makes_get : Makes place.Place (row.Expr expr.Get)
makes_get = two (IsMade place.Place) (row.Expr expr.Get) refl refl (λ at x y h k. record { kept = (h, k); formed = refl })

makes_at : Makes place.Place (row.Expr expr.At)
makes_at = two (IsMade place.Place) (row.Expr expr.At) refl refl (λ at x y h k. record { kept = (h, k); formed = refl })

reads_get : Makes place.Expr (row.Expr expr.Get)
reads_get = two (IsMade place.Expr) (row.Expr expr.Get) refl refl (λ at x y h k. record { kept = (h, k); formed = refl })

reads_at : Makes place.Expr (row.Expr expr.At)
reads_at = two (IsMade place.Expr) (row.Expr expr.At) refl refl (λ at x y h k. record { kept = (h, k); formed = refl })

-- a literal with no more than its scalar's word
abbrev is_plain : Scalar → Bool
is_plain scalar.Bool = false
is_plain (scalar.Ix n) = false
is_plain s = true

makes_lit : (s : Scalar) → is_plain s ≡ true → Makes place.Expr (row.Expr (expr.Lit s))
makes_lit scalar.Bool e = cc
makes_lit (scalar.Ix n) e = cc
makes_lit s e = one (IsMade place.Expr) (row.Expr (expr.Lit s)) refl refl (λ at x h. record { kept = (tt, h); formed = refl })

makes_lit_ix : Makes place.Expr (row.Expr expr.LitIx)
makes_lit_ix = two (IsMade place.Expr) (row.Expr expr.LitIx) refl refl (λ at x y h k. record { kept = (h, k); formed = refl })

makes_bin : (o : BinOp) → Makes place.Expr (row.Expr (expr.Bin o))
makes_bin o = two (IsMade place.Expr) (row.Expr (expr.Bin o)) refl refl (λ at x y h k. record { kept = (h, k); formed = refl })

makes_un : (o : UnOp) → Makes place.Expr (row.Expr (expr.Un o))
makes_un o = one (IsMade place.Expr) (row.Expr (expr.Un o)) refl refl (λ at x h. record { kept = h; formed = refl })

makes_cond : Makes place.Expr (row.Expr expr.Cond)
makes_cond = three (IsMade place.Expr) (row.Expr expr.Cond) refl refl (λ at x y z h k l. record { kept = (h, k, l); formed = refl })

makes_cast : Makes place.Expr (row.Expr expr.Cast)
makes_cast = two (IsMade place.Expr) (row.Expr expr.Cast) refl refl (λ at x y h k. record { kept = (h, k); formed = refl })

-- ---- the places

-- a row of an expression
abbrev is_expr : Row → Bool
is_expr (row.Expr (expr.Lit s)) = is_plain s
is_expr (row.Expr e) = true
is_expr r = false

makes_expr : (r : Row) → is_expr r ≡ true → Makes place.Expr r
makes_expr (row.Expr expr.Get) e = reads_get
makes_expr (row.Expr expr.At) e = reads_at
makes_expr (row.Expr (expr.Lit s)) e = makes_lit s e
makes_expr (row.Expr expr.LitIx) e = makes_lit_ix
makes_expr (row.Expr (expr.Bin o)) e = makes_bin o
makes_expr (row.Expr (expr.Un o)) e = makes_un o
makes_expr (row.Expr expr.Cond) e = makes_cond
makes_expr (row.Expr expr.Cast) e = makes_cast
makes_expr r e = cc

abbrev all_exprs : List Row → Bool
all_exprs [] = true
all_exprs (r ∷ rs) = is_expr r && all_exprs rs

both_true : (x y : Bool) → x && y ≡ true → (x ≡ true) × (y ≡ true)
both_true true y e = (refl, e)
both_true false y e = cc

make_exprs : (rs : List Row) → all_exprs rs ≡ true → AllOf (Makes place.Expr) rs
make_exprs [] e = tt
make_exprs (r ∷ rs) e = let k = both_true (is_expr r) (all_exprs rs) e in (makes_expr r k.0, make_exprs rs k.1)

-- each row of a place makes such a part
pub all_make : (p : Place) → AllOf (Makes p) (rows p)
all_make place.Tower = (makes_tower, (makes_tower2, tt))
all_make place.Item = (item_1 (row.Item item.Record) (makes_record 1), (item_1 (row.Item item.Init) (makes_init 1), (item_1 (row.Item item.Period) makes_period, (item_1 (row.Item item.Signal) makes_signal, (item_1 (row.Item item.Channel) (makes_channel 1), (item_1 (row.Item item.Output) (makes_output 1), (item_1 (row.Item item.Monitor) (makes_monitor 1), tt)))))))
all_make place.Item2 = (item_2 (row.Item item.Record) (makes_record 2), (item_2 (row.Item item.Init) (makes_init 2), (item_2 (row.Item item.Period2) makes_period2, (item_2 (row.Item item.Signal2) makes_signal2, (item_2 (row.Item item.Channel) (makes_channel 2), (item_2 (row.Item item.Output) (makes_output 2), (item_2 (row.Item item.Monitor) (makes_monitor 2), tt)))))))
all_make place.Field = (makes_field, tt)
all_make place.Part = (makes_state, (makes_handler, tt))
all_make place.Hpart = (makes_emitter, (makes_callback, tt))
all_make place.Type = (makes_ix, (makes_array, tt))
all_make place.Stmt = (makes_let, (makes_local, (makes_set, (makes_copy, (makes_if, (makes_for, (makes_emit, tt)))))))
all_make place.Then = (makes_then, tt)
all_make place.Else = (makes_else, tt)
all_make place.Place = (makes_get, (makes_at, tt))
all_make place.Expr = make_exprs (rows place.Expr) refl
all_make p = tt
