-- Worked texts: that of one whole system, and of each kind of declaration.
use Rattle.std.specs.Prelude.{◌≡◌, List, [], ◌∷◌, ◌++◌, map, flat_map, Some, None, codes, true, false}
use Rattle.tower_types.specs.declared.scalar.Scalar.TheVariants as scalar
use Rattle.aadl_profile.specs.declared.said.Id.{Id}
use Rattle.aadl_profile.specs.declared.said.Base.TheVariants as base
use Rattle.aadl_profile.specs.declared.said.TypeSaid.{TypeSaid}
use Rattle.aadl_profile.specs.declared.said.Dispatch.TheVariants as dispatch
use Rattle.aadl_profile.specs.declared.said.Declared.{Declared}
use Rattle.aadl_profile.specs.declared.said.Declared.TheVariants as declared
use Rattle.aadl_profile.specs.declared.said.Said.{Said}
use Rattle.aadl_profile.specs.Strings.{Bytes}
use Rattle.aadl_profile.specs.Lines.{declared_lines, depth_property, process_lines, line_text, text}
use Rattle.aadl_profile.specs.Pieces.{Line}

abbrev pub ended : Bytes → Bytes
ended l = l ++ 10 ∷ []

abbrev pub all : List Line → Bytes
all ls = flat_map line_text ls

abbrev pub whole : List Bytes → Bytes
whole ls = flat_map ended ls

abbrev pub id : Bytes → Id
id w = record { at = 0; name = w }

abbrev pub plain : Bytes → TypeSaid
plain w = record { lengths = []; base = base.Record w }

abbrev pub clock : Said
clock = record {
  deep = false;
  id = id (codes "clock");
  declared =
      declared.Handler (id (codes "tick")) (id (codes "count")) (id (codes "beat")) None
      ∷ declared.Monitor (id (codes "count"))
      ∷ declared.Thread (record {
        id = id (codes "beat");
        dispatch = dispatch.Period 10;
        priority = 5;
        touches = Some (record { before = []; last = id (codes "count") });
        depth = None;
      })
      ∷ [];
}

abbrev pub a_record : Declared
a_record = declared.Record (id (codes "fix")) (record {
  before =
      record { at = 0; name = codes "lat"; ty = record { lengths = []; base = base.Scalar scalar.I32 } }
      ∷ record { at = 0; name = codes "ring"; ty = record { lengths = 4 ∷ 2 ∷ []; base = base.Record (codes "fix_2") } } ∷ [];
  last = record { at = 0; name = codes "pos"; ty = record { lengths = []; base = base.Scalar (scalar.Ix 4) } };
})

abbrev pub a_handler : Declared
a_handler = declared.Handler (id (codes "both")) (id (codes "m")) (id (codes "a")) (Some (record {
  before = record { at = 0; name = codes "e"; channel = codes "log"; bound = 1 } ∷ [];
  last = record { at = 0; name = codes "f"; channel = codes "log"; bound = 2 };
}))

abbrev pub a_signal : Declared
a_signal = declared.Thread (record {
  id = id (codes "gps");
  dispatch = dispatch.Signal (record { at = 0; ty = plain (codes "fix") });
  priority = 180;
  touches = Some (record { before = id (codes "m") ∷ []; last = id (codes "k") });
  depth = Some 2;
})

abbrev pub an_init : Declared
an_init = declared.Thread (record { id = id (codes "boot"); dispatch = dispatch.Init; priority = 250; touches = None; depth = None })

pub record WorkedTexts : Type 0 where
  pub a_record : all (declared_lines a_record) ≡ whole (
      codes "  data rec_fix"
      ∷ codes "  properties"
      ∷ codes "    Tower_Profile::Fields => (\"lat i32\", \"ring (array 4 (array 2 fix_2))\", \"pos (ix 4)\");"
      ∷ codes "  end rec_fix;" ∷ [])
  pub a_channel : all (declared_lines (declared.Channel (id (codes "log")) (record { at = 0; ty = record { lengths = []; base = base.Scalar scalar.U32 } }))) ≡ whole (
      codes "  data chan_log"
      ∷ codes "  properties"
      ∷ codes "    Tower_Profile::Carries => \"u32\";"
      ∷ codes "  end chan_log;" ∷ [])
  pub an_output : all (declared_lines (declared.Output (id (codes "seen")) (id (codes "log")))) ≡ whole (
      codes "  data out_seen"
      ∷ codes "  properties"
      ∷ codes "    Tower_Profile::Kind => \"output\";"
      ∷ codes "    Tower_Profile::Hears => \"log\";"
      ∷ codes "  end out_seen;" ∷ [])
  pub a_handler : all (declared_lines a_handler) ≡ whole (
      codes "  subprogram hnd_both"
      ∷ codes "  properties"
      ∷ codes "    Tower_Profile::Part_Of => \"m\";"
      ∷ codes "    Tower_Profile::Hears => \"a\";"
      ∷ codes "    Tower_Profile::Emits => (\"e log 1\", \"f log 2\");"
      ∷ codes "  end hnd_both;" ∷ [])
  pub a_signal : all (declared_lines a_signal) ≡ whole (
      codes "  thread src_gps"
      ∷ codes "  properties"
      ∷ codes "    Dispatch_Protocol => Aperiodic;"
      ∷ codes "    Priority => 180;"
      ∷ codes "    Tower_Profile::Kind => \"signal\";"
      ∷ codes "    Tower_Profile::Carries => \"fix\";"
      ∷ codes "    Tower_Profile::Touches => (\"m\", \"k\");"
      ∷ codes "    Tower_Profile::Depth => \"2\";"
      ∷ codes "  end src_gps;"
      ∷ codes "  thread implementation src_gps.impl"
      ∷ codes "  end src_gps.impl;" ∷ [])
  pub an_init : all (declared_lines an_init) ≡ whole (
      codes "  thread src_boot"
      ∷ codes "  properties"
      ∷ codes "    Dispatch_Protocol => Aperiodic;"
      ∷ codes "    Priority => 250;"
      ∷ codes "    Tower_Profile::Kind => \"init\";"
      ∷ codes "  end src_boot;"
      ∷ codes "  thread implementation src_boot.impl"
      ∷ codes "  end src_boot.impl;" ∷ [])
  pub no_part : all (process_lines []) ≡ whole (
      codes "  process tasks"
      ∷ codes "  end tasks;"
      ∷ codes "  process implementation tasks.impl"
      ∷ codes "  end tasks.impl;" ∷ [])
  pub depths : all (depth_property true) ≡ whole (codes "  Depth : aadlstring applies to (all);" ∷ [])
  pub clock : text clock ≡ whole (
      codes "property set Tower_Profile is"
      ∷ codes "  Kind : aadlstring applies to (all);"
      ∷ codes "  Carries : aadlstring applies to (all);"
      ∷ codes "  Hears : aadlstring applies to (all);"
      ∷ codes "  Part_Of : aadlstring applies to (all);"
      ∷ codes "  Fields : list of aadlstring applies to (all);"
      ∷ codes "  Emits : list of aadlstring applies to (all);"
      ∷ codes "  Touches : list of aadlstring applies to (all);"
      ∷ codes "end Tower_Profile;"
      ∷ []
      ∷ codes "package twr_clock"
      ∷ codes "public"
      ∷ codes "  with Tower_Profile;"
      ∷ codes "  subprogram hnd_tick"
      ∷ codes "  properties"
      ∷ codes "    Tower_Profile::Part_Of => \"count\";"
      ∷ codes "    Tower_Profile::Hears => \"beat\";"
      ∷ codes "  end hnd_tick;"
      ∷ codes "  data mon_count"
      ∷ codes "  properties"
      ∷ codes "    Tower_Profile::Kind => \"monitor\";"
      ∷ codes "  end mon_count;"
      ∷ codes "  thread src_beat"
      ∷ codes "  properties"
      ∷ codes "    Dispatch_Protocol => Periodic;"
      ∷ codes "    Period => 10 ms;"
      ∷ codes "    Priority => 5;"
      ∷ codes "    Tower_Profile::Kind => \"period\";"
      ∷ codes "    Tower_Profile::Touches => (\"count\");"
      ∷ codes "  end src_beat;"
      ∷ codes "  thread implementation src_beat.impl"
      ∷ codes "  end src_beat.impl;"
      ∷ codes "  process tasks"
      ∷ codes "  end tasks;"
      ∷ codes "  process implementation tasks.impl"
      ∷ codes "  subcomponents"
      ∷ codes "    t_beat : thread src_beat.impl;"
      ∷ codes "    m_count : data mon_count;"
      ∷ codes "  end tasks.impl;"
      ∷ codes "  system whole"
      ∷ codes "  end whole;"
      ∷ codes "  system implementation whole.impl"
      ∷ codes "  subcomponents"
      ∷ codes "    p : process tasks.impl;"
      ∷ codes "  end whole.impl;"
      ∷ codes "end twr_clock;"
      ∷ [])
