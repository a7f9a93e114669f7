-- The report of a replay, line by line, as a function of the world that the steps led to.
use Rattle.std.specs.Prelude.{ℕ, Bool, true, false, ◌&&◌, List, [], ◌∷◌, ◌++◌, map, codes, decimal, bytes_eq}
use Rattle.std.specs.FinMap.{empty}
use Rattle.std.specs.List.{flat_map}
use Rattle.dumps.specs.Dump.{dump_text}
use Rattle.execution_order.specs.Entries.{Row, rows_by_stamp}
use Rattle.groups.specs.Skips.{parts_of}
use Rattle.groups.specs.declared.skip_id.SkipId.{SkipId}
use Rattle.hex.specs.Hex.{encode_lower}
use Rattle.journal.specs.TraceText.{id_text, skip_text}
use Rattle.keyspace.specs.Map.{Map}
use Rattle.resp.specs.Text.{text}
use Rattle.groups.specs.declared.request.RequestId.{RequestId}
use Rattle.groups.specs.declared.stamp.Stamp.{Stamp}
use Rattle.tasks.specs.Tasks.{Task, Deed, task_name, deed_effect, deeds_in_turn}
use Rattle.world.specs.Steps.{starved_among}
use Rattle.world.specs.World.{World}
use Rattle.world_laws.specs.Headline.{rows_of}

abbrev pub stamp_text : Stamp → List ℕ
stamp_text s = decimal s.clock ++ codes "." ++ decimal s.group

-- `row CLOCK.GROUP CONN.SEQ NAME REPLY`, and LF
abbrev pub line_of : Stamp → RequestId → Task → List ℕ → List ℕ
line_of stamp id task reply =
    codes "row " ++ stamp_text stamp ++ codes " " ++ id_text id ++ codes " " ++ task_name task ++ codes " " ++ encode_lower reply
    ++ codes "\n"

-- the line of an executed request
abbrev pub row_line : Row → List ℕ
row_line r = line_of r.entry.stamp r.entry.id r.entry.task (text r.reply)

-- `starved CONN.SEQ` of a request, `starved CONN.SEQ.NUMBER` of a member of one, and LF
abbrev pub starved_line : SkipId → List ℕ
starved_line name = codes "starved " ++ skip_text name ++ codes "\n"

-- ---- the comparison

-- what a row's request does where those of its members starve that are named
abbrev pub deed_by : List SkipId → Row → Deed
deed_by starved r = (r.entry.task, parts_of starved r.entry.id)

-- one thread that runs these requests one after another, on this map first, gives each of them its reply
abbrev pub replies_agree : List SkipId → Map → List Row → Bool
replies_agree starved m [] = true
replies_agree starved m (r ∷ rs) =
    bytes_eq (text (deed_effect (deed_by starved r) m).1) (text r.reply)
    && replies_agree starved (deed_effect (deed_by starved r) m).0 rs

-- the map that it leaves
abbrev pub left_by : List SkipId → Map → List Row → Map
left_by starved m rows = (deeds_in_turn m (map (deed_by starved) rows)).0

-- from no keys on it gives each its reply, and leaves the map of this dump
abbrev pub agrees : List SkipId → List Row → List ℕ → Bool
agrees starved rows dump = replies_agree starved empty rows && bytes_eq (dump_text (left_by starved empty rows)) dump

abbrev pub last_line : Bool → List ℕ
last_line true = codes "agree\n"
last_line false = codes "differ\n"

-- ---- the whole

-- the executed requests, ascending by their final stamps
abbrev pub executed_in : World → List Row
executed_in w = rows_by_stamp (rows_of w.ended)

-- The executed requests by their stamps, the names of what starved in the order of the turns, the dump of the map, and what
-- the comparison says.
abbrev pub report_text : World → List ℕ
report_text w =
    flat_map row_line (executed_in w) ++ flat_map starved_line (starved_among w.ended) ++ dump_text w.contents
    ++ last_line (agrees (starved_among w.ended) (executed_in w) (dump_text w.contents))
