-- A file with a link for each used name, where m says what each use refers to. It is the file as written, but for that.
use Rattle.std.specs.Prelude.{ℕ, map, Option, Some, None}
use Rattle.tower_syntax.specs.declared.named.Target.{Target}
use Rattle.tower_syntax.specs.RawTree.{Id, Link, RawType, word, rec, array, RawPlace, root, get, index, RawExpr, truth, read, lit, un, bin, choose, cast, RawStmt, bind, local, set, copy, branch, loop, emit, RawStmts, no_stmts, stmt, RawField, RawHpart, emitter, callback, RawPart, state, handler, RawItem, fields, init, period, signal, channel, output, monitor, Raw}
use Rattle.arch_names.specs.declared.names.Thing.{Thing}
use Rattle.arch_names.specs.declared.names.Scope.{Scope}
use Rattle.arch_names.specs.declared.fault.Sort.TheVariants as sort
use Rattle.arch_names.specs.Names.{Find, find}
use Rattle.arch_names.specs.Sets.{states_of, declared_in}
use Rattle.arch_names.specs.Site.{Site, id_at, refers, picks}
use Rattle.arch_names.specs.Sites.{Around, around, entry, type_site, name_site, seen, past, with_name, after, bound_by_all}

module _ (m : Site → Target) where
  abbrev pub link : Site → Link
  link u = record { at = (id_at u).at; target = m u }

  abbrev pub linked_type : Find Thing → Option ℕ → RawType Id → RawType Link
  linked_type file within (word at s) = word at s
  linked_type file within (rec u) = rec (link (type_site file within u))
  linked_type file within (array at n t) = array at n (linked_type file within t)

  abbrev mutual
    pub linked_place : Find Thing → Find Target → RawPlace Id → RawPlace Link
    linked_place file known (root u) = root (link (name_site known u))
    linked_place file known (get at p f) = get at (linked_place file known p) f
    linked_place file known (index at p e) = index at (linked_place file known p) (linked_expr file known e)

    pub linked_expr : Find Thing → Find Target → RawExpr Id → RawExpr Link
    linked_expr file known (truth at b) = truth at b
    linked_expr file known (read p) = read (linked_place file known p)
    linked_expr file known (lit at t n) = lit at t n
    linked_expr file known (un at op x) = un at op (linked_expr file known x)
    linked_expr file known (bin at op x y) = bin at op (linked_expr file known x) (linked_expr file known y)
    linked_expr file known (choose at c x y) = choose at (linked_expr file known c) (linked_expr file known x) (linked_expr file known y)
    linked_expr file known (cast at t x) = cast at (linked_type file None t) (linked_expr file known x)

  abbrev mutual
    pub linked_stmt : Around → Scope → RawStmt Id → RawStmt Link
    linked_stmt a s (bind at x e) = bind at x (linked_expr a.file (seen a s) e)
    linked_stmt a s (local at x t) = local at x (linked_type a.file None t)
    linked_stmt a s (set at p e) = set at (linked_place a.file (seen a s) p) (linked_expr a.file (seen a s) e)
    linked_stmt a s (copy at p q) = copy at (linked_place a.file (seen a s) p) (linked_place a.file (seen a s) q)
    linked_stmt a s (branch at e then_at ss else_at ts) = branch at (linked_expr a.file (seen a s) e) then_at (linked_all a s ss) else_at (linked_all a (past s (bound_by_all ss)) ts)
    linked_stmt a s (loop at x n body) = loop at x n (linked_all a (with_name s x) body)
    linked_stmt a s (emit at u e) = emit at (link (picks (a.emitters u.name) u)) (linked_expr a.file (seen a s) e)

    pub linked_all : Around → Scope → RawStmts Id → RawStmts Link
    linked_all a s no_stmts = no_stmts
    linked_all a s (stmt t ts) = stmt (linked_stmt a s t) (linked_all a (after s t) ts)

  abbrev pub linked_hpart : Around → RawHpart Id → RawHpart Link
  linked_hpart a (emitter at x u bound) = emitter at x (link (refers sort.Channel (a.file u.name) u)) bound
  linked_hpart a (callback at x ss) = callback at x (linked_all a (entry x) ss)

  abbrev pub linked_part : Find Thing → Find Target → RawPart Id → RawPart Link
  linked_part file states (state at x t) = state at x (linked_type file None t)
  linked_part file states (handler at x u hs) = handler at x (link (refers sort.SourceOrChannel (file u.name) u)) (map (linked_hpart (around file states hs)) hs)

  abbrev pub linked_field : Find Thing → ℕ → RawField Id → RawField Link
  linked_field file record_at f = record { at = f.at; name = f.name; ty = linked_type file (Some record_at) f.ty }

  abbrev pub linked_item : Find Thing → RawItem Id → RawItem Link
  linked_item file (fields at x fs) = fields at x (map (linked_field file x.at) fs)
  linked_item file (init at x p) = init at x p
  linked_item file (period at x ms p d) = period at x ms p d
  linked_item file (signal at x t p d) = signal at x (linked_type file None t) p d
  linked_item file (channel at x t) = channel at x (linked_type file None t)
  linked_item file (output at x u) = output at x (link (refers sort.Channel (file u.name) u))
  linked_item file (monitor at x ps) = monitor at x (map (linked_part file (find (states_of ps))) ps)

  abbrev pub linked : Raw Id → Raw Link
  linked raw = record { at = raw.at; version = raw.version; name = raw.name; items = map (linked_item (find (declared_in raw.items))) raw.items }
