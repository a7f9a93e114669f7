-- What a store tells of a layer, as requests that have ended.
use Rattle.std.proofs.Common.{◌≡◌, List, [], ◌∷◌, ◌++◌, inl, inr, Option, Some, None, Ok, option_map, refl, sym, ap, ◌∙◌}
use Rattle.std.specs.List.{AllZip}
use Rattle.tasks.specs.Starved.{starved_in}
use Rattle.groups.specs.Order.{In}
use Rattle.layer_results.proofs.Names.{names_by_task}
use Rattle.layer_results.specs.Results.{names_of, row_names}
use Rattle.layer_results.specs.declared.done.DoneRow.{DoneRow}
use Rattle.order_laws.specs.Truth.{ran_as, CameOf}
use Rattle.cluster.specs.Layers.{IsToldBy}
use Rattle.cluster.specs.Sealed.{IsRowOf}
use Rattle.serial_store.specs.Serial.{with_row, rows_in, layer_of}
use Rattle.placement.specs.Layout.{Layout}
use Rattle.resp.specs.Content.{content}
use Rattle.resp.specs.declared.reply.Reply.{Reply}
use Rattle.skeen_core.specs.declared.packet.Delivered.{Delivered}
use Rattle.tasks.specs.Tasks.{task_groups, starved_names}
use Rattle.world.specs.Steps.{starved_among}
use Rattle.world.specs.World.{Request, Ended}
use Rattle.world_laws.specs.Good.{Asked}
use Rattle.world_laws.specs.Headline as headline
use Rattle.world_laws.specs.Headline.{rows_of}

-- the requests of a layer, ended as the rows tell
pub record Tells (asked : Asked) (ds : List Delivered) (done : List DoneRow) : Type 0 where
  pub es : List Ended
  pub came : CameOf asked ds es
  pub told : AllZip IsToldBy es done

abbrev ended_as : Delivered → Request → DoneRow → Ended
ended_as d q row = record { id = d.id; stamp = d.stamp; groups = d.groups; task = q.task; reply = option_map content row.reply }

pub tells : (asked : Asked) (ds : List Delivered) (done : List DoneRow) → AllZip (IsRowOf asked) ds done → Tells asked ds done
tells asked [] [] zip = record { es = []; came = record { each = refl; tasks = λ e there. absurd there }; told = tt }
tells asked (d ∷ ds) (row ∷ done) zip =
    let rest = tells asked ds done zip.1 in
    let q = zip.0.says in
    record {
      es = ended_as d q.0 row ∷ rest.es;
      came = record { each = ap (λ l. d ∷ l) rest.came.each; tasks = tasks rest.es rest.came.tasks };
      told = (record { id = zip.0.id; stamp = zip.0.stamp; reply = refl; says = q.2 }, rest.told);
    }
  where
    tasks : (es : List Ended) → ((e : Ended) → In e es → (q : Request) × (asked e.id ≡ Some q) × (e.task ≡ q.task)) →
        (e : Ended) → In e (ended_as d zip.0.says.0 row ∷ es) → (q : Request) × (asked e.id ≡ Some q) × (e.task ≡ q.task)
    tasks es others e (inl same) =
        (zip.0.says.0, ap (λ (x : Ended). asked x.id) same ∙ zip.0.says.1, ap (λ (x : Ended). x.task) same)
    tasks es others e (inr there) = others e there
tells asked ds done zip = absurd zip

-- ---- the layer that a store has run

names_so : (e : Ended) (row : DoneRow) → IsToldBy e row → row_names row ≡ starved_names e.id e.task e.reply
names_so e row by = names_by_task row.id row.words e.task (option_map content row.reply) by.says
    ∙ ap (λ i. starved_names i e.task (option_map content row.reply)) by.id ∙ ap (starved_names e.id e.task) (sym by.reply)

pub names_told : (es : List Ended) (done : List DoneRow) → AllZip IsToldBy es done → names_of done ≡ starved_among es
names_told [] [] zip = refl
names_told (e ∷ es) (row ∷ done) zip =
    ap (λ l. l ++ names_of done) (names_so e row zip.0) ∙ ap (λ l. starved_names e.id e.task e.reply ++ l) (names_told es done zip.1)
names_told es done zip = absurd zip

-- each addresses the groups of its task
abbrev pub Addressed : Layout → List Ended → Type 0
Addressed t es = (e : Ended) → In e es → e.groups ≡ task_groups t e.task

pub rows_told : (t : Layout) (es : List Ended) (done : List DoneRow) → Addressed t es → AllZip IsToldBy es done →
    rows_in t done ≡ rows_of es
rows_told t [] [] addressed zip = refl
rows_told t (e ∷ es) (row ∷ done) addressed zip =
    ap (λ read. with_row t row row.reply read (rows_in t done)) zip.0.says
    ∙ ap (with_row t row row.reply (Ok e.task)) (rows_told t es done (λ x there. addressed x (inr there)) zip.1)
    ∙ by_reply row.reply zip.0.reply
  where
    by_reply : (o : Option Reply) → e.reply ≡ option_map content o →
        with_row t row o (Ok e.task) (rows_of es) ≡ headline.with_row e e.reply (rows_of es)
    by_reply None none = ap (λ r. headline.with_row e r (rows_of es)) (sym none)
    by_reply (Some reply) some = (λ k. record {
      entry = record {
        id = zip.0.id k;
        stamp = zip.0.stamp k;
        groups = sym (addressed e (inl refl)) k;
        task = e.task;
        starved = starved_in e.task (content reply);
      };
      reply = content reply;
    } ∷ rows_of es) ∙ ap (λ r. headline.with_row e r (rows_of es)) (sym some)
rows_told t es done addressed zip = absurd zip

pub layer_told : (t : Layout) (es : List Ended) (done : List DoneRow) → Addressed t es → AllZip IsToldBy es done →
    layer_of t done ≡ ran_as es
layer_told t es done addressed zip = λ k. record { rows = rows_told t es done addressed zip k; starved = names_told es done zip k }
