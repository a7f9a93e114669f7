-- What comes of a layer, as contracts see it: the rows of its requests, in its order.
use Rattle.std.specs.Prelude.{ℕ, List, [], ◌∷◌, length, map, Option, Some, None, option_map, if◌then◌else◌}
use Rattle.std.specs.List.{flat_map}
use Rattle.std.specs.Str.{bytes_eq}
use Rattle.tasks.specs.Starved.{wants_in}
use Rattle.groups.specs.declared.request.RequestId.{RequestId}
use Rattle.groups.specs.declared.skip_id.SkipId.{SkipId}
use Rattle.groups.specs.declared.skip_id.SkipId.TheVariants.{Whole, Part}
use Rattle.layer_results.specs.declared.done.DoneRow.{DoneRow}
use Rattle.resp.specs.Content.{Content, content}
use Rattle.sessions.specs.Control.{exec_name}

-- how many members a request of these words has: an EXEC has one for each word behind its name, a command none
abbrev pub member_count : List (List ℕ) → ℕ
member_count [] = 0
member_count (name ∷ words) = if bytes_eq name exec_name then length words else 0

-- the numbers of the members that starved, of a request of these words that was answered so: those whose place says that there
-- was no memory
abbrev pub starved_by : List (List ℕ) → Content → List ℕ
starved_by words reply = wants_in (member_count words) reply

-- what starved of such a request: itself, where it has no reply, or else those of its members that its reply tells
abbrev pub names_by : RequestId → List (List ℕ) → Option Content → List SkipId
names_by id words None = Whole id ∷ []
names_by id words (Some reply) = map (Part id) (starved_by words reply)

abbrev pub row_names : DoneRow → List SkipId
row_names row = names_by row.id row.words (option_map content row.reply)

-- what starved of the layer
abbrev pub names_of : List DoneRow → List SkipId
names_of done = flat_map row_names done
