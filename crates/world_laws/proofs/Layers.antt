-- A layer: taken from the queues, run, settled.
use Rattle.std.proofs.Common.{◌≡◌, ℕ, Bool, true, false, cond, List, [], ◌∷◌, ◌++◌, ◌⊎◌, inl, inr, Option, Some, None, refl, sym, ap, ◌∙◌}
use Rattle.std.proofs.Common.{subst, append-nil, append_assoc}
use Rattle.std.proofs.lemmas.Bool.{both_ways}
use Rattle.std.specs.FinMap.{empty}
use Rattle.delivery.proofs.Layers.{StandsAt, layer_stands, taken_somewhere}
use Rattle.delivery.specs.Ready.{IsLayer, taken_from, left_in}
use Rattle.groups.specs.GroupSet.{has}
use Rattle.keyspace.specs.Map.{Map}
use Rattle.placement.specs.Layout.{Layout}
use Rattle.skeen_core.proofs.Lawful.{id_there}
use Rattle.groups.proofs.Lists.{In-left, In-right, In-append}
use Rattle.groups.proofs.Stamps.{lt_irrefl}
use Rattle.skeen_core.specs.Group.{GroupState, Ascending, has_id}
use Rattle.groups.specs.Order.{In}
use Rattle.groups.specs.Stamp.{stamp_lt, final}
use Rattle.skeen_core.specs.declared.packet.Delivered.{Delivered}
use Rattle.skeen_core.specs.declared.packet.Packet.{Packet}
use Rattle.groups.specs.declared.request.RequestId.{RequestId}
use Rattle.groups.specs.Skips.{names_whole, parts_of}
use Rattle.groups.specs.declared.skip_id.SkipId.{SkipId}
use Rattle.resp.specs.Content.{Content}
use Rattle.tasks.proofs.Told.{told_again}
use Rattle.tasks.specs.Tasks.{deed_effect}
use Rattle.world.specs.Steps.{map_after, after_all, RunInTurn}
use Rattle.world.specs.World.{Request, Ended, NoneTaken, Taken, HasRun, Proposals}
use Rattle.world_laws.specs.Good.{Rising, Asked, Known, SkeenGood, AskedGood, delivered_of, all_delivered, all_taken, Touching, TakenGood}
use Rattle.world_laws.specs.Good.{AnswersOn, RepliesOn, RepliesInTurn, RunGood}
use Rattle.world_laws.proofs.Groups.{AskedMore}
use Rattle.world_laws.proofs.Lists.{rising_append, rising_cross, rising_left}
use Rattle.groups.proofs.Options.{some_same}

-- ---- Take

-- what a layer takes and what it leaves make the queue
pub taken_and_left : (layer ds : List Delivered) → taken_from layer ds ++ left_in layer ds ≡ ds
taken_and_left layer [] = refl
taken_and_left layer (d ∷ ds) = elim (has_id layer d.id) as (λ b. cond b (d ∷ taken_from layer ds) [] ++ cond b (left_in layer ds)
    (d ∷ ds) ≡ d ∷ ds) [
      | true ↦ ap (λ l. d ∷ l) (taken_and_left layer ds)
      | false ↦ refl
    ]

-- what each group has delivered is the same
pub log_taken : (gone queue : ℕ → List Delivered) (ds : List Delivered) → ◌≡◌ {A = ℕ → List Delivered} (λ g. gone g ++ queue g)
    (λ g. (gone g ++ taken_from ds (queue g)) ++ left_in ds (queue g))
log_taken gone queue ds = λ i g. at_group g i
  where
    at_group : (g : ℕ) → gone g ++ queue g ≡ (gone g ++ taken_from ds (queue g)) ++ left_in ds (queue g)
    at_group g = sym (append_assoc (gone g) (taken_from ds (queue g)) (left_in ds (queue g))
        ∙ ap (λ l. gone g ++ l) (taken_and_left ds (queue g)))

-- a request behind such as are all in the layer is taken with them
taken_behind : (ds front rest : List Delivered) (d : Delivered) → In d ds → ((e : Delivered) → In e front → In e ds)
    → In d (taken_from ds (front ++ d ∷ rest))
taken_behind ds [] rest d there inside =
    subst (λ b. In d (cond b (d ∷ taken_from ds rest) [])) (sym (id_there ds d there)) (inl refl)
taken_behind ds (f ∷ fs) rest d there inside =
    subst (λ b. In d (cond b (f ∷ taken_from ds (fs ++ d ∷ rest)) [])) (sym (id_there ds f (inside f (inl refl))))
    (inr (taken_behind ds fs rest d there (λ e i. inside e (inr i))))

-- each of the request's groups had delivered it, and the layer takes it there
in_queue : (queue : ℕ → List Delivered) (ds : List Delivered) (d : Delivered) (g : ℕ) → StandsAt queue ds g d → In d (queue g)
in_queue queue ds d g at = subst (λ l. In d l) (sym at.stands) (In-right d at.front (d ∷ at.rest) (inl refl))

layer_taken : (queue : ℕ → List Delivered) (ds : List Delivered) (d : Delivered) (g : ℕ) → In d ds → StandsAt queue ds g d
    → In d (taken_from ds (queue g))
layer_taken queue ds d g there at =
    subst (λ l. In d (taken_from ds l)) (sym at.stands) (taken_behind ds at.front at.rest d there at.before)

-- in a layer the stamps rise, whatever its requests share
rising_layer : (ds : List Delivered) → Ascending ds → Rising Touching ds
rising_layer [] up = tt
rising_layer (d ∷ ds) up = (λ e there g a b. up.0 e there, rising_layer ds up.1)

-- what a group delivered earlier has the smaller stamp
pub ascending_cross : (xs ys : List Delivered) → Ascending (xs ++ ys) → (x y : Delivered) → In x xs → In y ys →
    stamp_lt x.stamp y.stamp ≡ true
ascending_cross [] ys up x y there here = absurd there
ascending_cross (z ∷ xs) ys up x y (inl same) here = subst (λ (u : Delivered). stamp_lt u.stamp y.stamp ≡ true) (sym same)
    (up.0 y (In-right y xs ys here))
ascending_cross (z ∷ xs) ys up x y (inr there) here = ascending_cross xs ys up.1 x y there here

pub ascending_right : (xs ys : List Delivered) → Ascending (xs ++ ys) → Ascending ys
ascending_right [] ys up = up
ascending_right (x ∷ xs) ys up = ascending_right xs ys up.1

pub taken_layer : (asked : Asked) (proposed : Proposals) (packets : List Packet) (group : ℕ → GroupState) (gone queue : ℕ → List Delivered)
    (ended : List Ended) (ds : List Delivered) →
    SkeenGood asked proposed packets group (λ g. gone g ++ queue g) → IsLayer queue ds →
    TakenGood asked proposed gone (all_taken ended NoneTaken) →
    TakenGood asked proposed (λ g. gone g ++ taken_from ds (queue g)) (all_taken ended (Taken ds))
taken_layer asked proposed packets group gone queue ended ds skeen layer good = record {
  known = λ d there. elim (In-append d (all_delivered ended) ds there) [
    | inl before ↦ good.known d (earlier d before)
    | inr now ↦
        let at = taken_somewhere queue d (layer.only d now) in
        (skeen.groups at.0).known d (In-right d (gone at.0) (queue at.0) at.2)
  ];
  passed = λ d there g addressed. elim (In-append d (all_delivered ended) ds there) [
    | inl before ↦ In-left d (gone g) (taken_from ds (queue g)) (good.passed d (earlier d before) g addressed)
    | inr now ↦ In-right d (gone g) (taken_from ds (queue g)) (layer_taken queue ds d g now (layer_stands queue ds layer d now g addressed))
  ];
  order = rising_append Touching (all_delivered ended) ds (rising_left Touching (all_delivered ended) [] good.order)
      (rising_layer ds layer.ascending)
      (λ x y before now g a b.
      ascending_cross (gone g) (queue g) (skeen.groups g).going.ascending x y (good.passed x (earlier x before) g a)
      (in_queue queue ds y g (layer_stands queue ds layer y now g b)));
}
  where
    earlier : (d : Delivered) → In d (all_delivered ended) → In d (all_delivered ended ++ [])
    earlier d there = In-left d (all_delivered ended) [] there

-- ---- Run

pub all_delivered-append : (xs ys : List Ended) → all_delivered (xs ++ ys) ≡ all_delivered xs ++ all_delivered ys
all_delivered-append [] ys = refl
all_delivered-append (x ∷ xs) ys = ap (λ l. delivered_of x ∷ l) (all_delivered-append xs ys)

-- what was run is the layer
pub run_of_layer : (asked : Asked) (starved : List SkipId) (m : Map) (ds : List Delivered) (es : List Ended) →
    RunInTurn asked starved m ds es → all_delivered es ≡ ds
run_of_layer asked starved m [] es run = ap all_delivered run
run_of_layer asked starved m (d ∷ ds) [] run = absurd run
run_of_layer asked starved m (d ∷ ds) (e ∷ es) run =
    ap (λ x. delivered_of x ∷ all_delivered es) run.0.2
    ∙ ap (λ l. d ∷ l) (run_of_layer asked starved (map_after e.reply e.task m) ds es run.1)

pub taken_run : (asked : Asked) (starved : List SkipId) (m : Map) (ended es : List Ended) (ds : List Delivered) →
    RunInTurn asked starved m ds es →
    all_taken ended (Taken ds) ≡ all_taken (ended ++ es) (HasRun es)
taken_run asked starved m ended es ds run =
    ap (λ l. all_delivered ended ++ l) (sym (run_of_layer asked starved m ds es run)) ∙ sym (all_delivered-append ended es)
    ∙ sym (append-nil (all_delivered (ended ++ es)))

pub in_delivered : (es : List Ended) (e : Ended) → In e es → In (delivered_of e) (all_delivered es)
in_delivered [] e there = absurd there
in_delivered (x ∷ es) e (inl same) = inl (ap delivered_of same)
in_delivered (x ∷ es) e (inr there) = inr (in_delivered es e there)

-- each has the task that was submitted
run_tasks : (asked : Asked) (starved : List SkipId) (m : Map) (ds : List Delivered) (es : List Ended) →
    RunInTurn asked starved m ds es →
    (e : Ended) → In e es → (q : Request) × (asked e.id ≡ Some q) × (e.task ≡ q.task)
run_tasks asked starved m [] es run e there = absurd (subst (λ l. In e l) run there)
run_tasks asked starved m (d ∷ ds) [] run e there = absurd run
run_tasks asked starved m (d ∷ ds) (x ∷ es) run e (inl same) =
    let it = same ∙ run.0.2 in
    (run.0.0, ap (λ y. asked y.id) it ∙ run.0.1, ap (λ y. y.task) it)
run_tasks asked starved m (d ∷ ds) (x ∷ es) run e (inr there) =
    run_tasks asked starved (map_after x.reply x.task m) ds es run.1 e there

-- each starves as a whole, or is answered as its task is answered there
pub run_replies : (asked : Asked) (starved : List SkipId) (m : Map) (ds : List Delivered) (es : List Ended) →
    RunInTurn asked starved m ds es → RepliesInTurn m es
run_replies asked starved m [] es run = subst (λ l. RepliesInTurn m l) (sym run) tt
run_replies asked starved m (d ∷ ds) [] run = absurd run
run_replies asked starved m (d ∷ ds) (e ∷ es) run = (
  subst (λ x. RepliesOn m x) (sym run.0.2) (one (names_whole starved d.id)),
  run_replies asked starved (map_after e.reply e.task m) ds es run.1,
)
  where
    told : Content
    told = (deed_effect (run.0.0.task, parts_of starved d.id) m).1

    one : (b : Bool) → (cond b None (Some told) ≡ None)
        ⊎ ((reply : Content) × (cond b None (Some told) ≡ Some reply) × AnswersOn m run.0.0.task reply)
    one true = inl refl
    one false = inr (told, refl, sym (ap (λ (x : Map × Content). x.1) (told_again run.0.0.task (parts_of starved d.id) m)))

pub after_all-append : (m : Map) (xs ys : List Ended) → after_all m (xs ++ ys) ≡ after_all (after_all m xs) ys
after_all-append m [] ys = refl
after_all-append m (x ∷ xs) ys = after_all-append (map_after x.reply x.task m) xs ys

pub replies-append : (m : Map) (xs ys : List Ended) → RepliesInTurn m xs → RepliesInTurn (after_all m xs) ys → RepliesInTurn m (xs ++ ys)
replies-append m [] ys a b = b
replies-append m (x ∷ xs) ys a b = (a.0, replies-append (map_after x.reply x.task m) xs ys a.1 b)

pub run_layer_good : (asked : Asked) (starved : List SkipId) (contents : Map) (ended es : List Ended) (ds : List Delivered) →
    RunInTurn asked starved contents ds es → RunGood asked ended contents →
    RunGood asked (ended ++ es) (after_all contents es)
run_layer_good asked starved contents ended es ds run good = record {
  tasks = λ e there. elim (In-append e ended es there) [
    | inl before ↦ good.tasks e before
    | inr now ↦ run_tasks asked starved contents ds es run e now
  ];
  replies = replies-append empty ended es good.replies
      (subst (λ m. RepliesInTurn m es) good.map (run_replies asked starved contents ds es run));
  map = ap (λ m. after_all m es) good.map ∙ sym (after_all-append empty ended es);
}

pub run_more : (asked asked' : Asked) (ended : List Ended) (contents : Map) → AskedMore asked asked' → RunGood asked ended contents →
    RunGood asked' ended contents
run_more asked asked' ended contents more good = record {
  tasks = λ e there. let c = good.tasks e there in (c.0, more e.id c.0 c.1, c.2);
  replies = good.replies;
  map = good.map;
}

-- ---- each once

-- what was taken stands once

pub known_same : (asked : Asked) (proposed : Proposals) (d e : Delivered) → Known asked proposed d → Known asked proposed e → d.id ≡ e.id →
    d ≡ e
known_same asked proposed d e known known' ids =
    let groups : d.groups ≡ e.groups =
    sym known.named.2 ∙ ap (λ (q : Request). q.groups)
    (some_same known.named.0 known'.named.0 (sym known.named.1 ∙ ap asked ids ∙ known'.named.1)) ∙ known'.named.2 in
    let stamps : d.stamp ≡ e.stamp = some_same d.stamp e.stamp (sym known.stamp ∙ ap (λ i. final (proposed i) d.groups) ids
    ∙ ap (λ gs. final (proposed e.id) gs) groups ∙ known'.stamp) in
    λ i. record { id = ids i; stamp = stamps i; groups = groups i }

pub known_some : (t : Layout) (asked : Asked) (proposed : Proposals) (seq : ℕ → ℕ) (last : ℕ → Option RequestId) (d : Delivered) →
    AskedGood t asked proposed seq last → Known asked proposed d → (g : ℕ) × (has d.groups g ≡ true)
known_some t asked proposed seq last d good known =
    let some = (good.shaped d.id known.named.0 known.named.1).some in
    (some.0, subst (λ gs. has gs some.0 ≡ true) known.named.2 some.1)

-- no id stands in both parts of what was taken
pub taken_once : (t : Layout) (asked : Asked) (proposed : Proposals) (gone : ℕ → List Delivered) (seq : ℕ → ℕ)
    (last : ℕ → Option RequestId) (xs ys : List Delivered) → AskedGood t asked proposed seq last →
    TakenGood asked proposed gone (xs ++ ys) →
    (x y : Delivered) → In x xs → In y ys → x.id ≡ y.id → ⊥
taken_once t asked proposed gone seq last xs ys requests good x y there here ids =
    let known = good.known x (In-left x xs ys there) in
    let same = known_same asked proposed x y known (good.known y (In-right y xs ys here)) ids in
    let some = known_some t asked proposed seq last x requests known in
    let less = rising_cross Touching xs ys good.order x y there here some.0 some.1
    (subst (λ (d : Delivered). has d.groups some.0 ≡ true) same some.1) in
    both_ways _ (lt_irrefl x.stamp) (ap (λ (d : Delivered). stamp_lt x.stamp d.stamp) same ∙ less)
