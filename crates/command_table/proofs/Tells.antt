-- What a row says of the words is what is told of the command.
use Rattle.std.proofs.Common.{Bool, Err, IfOk, List, None, Ok, Option, Result, Some, [], ap, arith, drop, false, if◌then◌else◌, length}
use Rattle.std.proofs.Common.{option_map, refl, subst, sym, true, unwrap_or, ℤ, ◌%◌, ◌++◌, ◌+◌, ◌==◌, ◌||◌, ◌∙◌, ◌∷◌, ◌≡◌}
use Rattle.std.proofs.lemmas.Bool.Decides.{nat_tests}
use Rattle.std.specs.Prelude.{codes}
use Rattle.std.specs.Str.{bytes_eq}
use Rattle.command_table.specs.declared.refusal.Refusal.TheVariants as refusal
use Rattle.command_table.specs.declared.command.Command.{Command}
use Rattle.command_table.specs.declared.command.Command.TheVariants.{Key, Str, Hash}
use Rattle.command_table.specs.declared.hash_commands.HashCommand.{HashCommand}
use Rattle.command_table.specs.declared.hash_commands.HashCommand.TheVariants.{Hset, Hmset}
use Rattle.command_table.specs.declared.refusal.Refusal.{Refusal}
use Rattle.command_table.specs.declared.key_commands.KeyCommand.TheVariants.{Flushall}
use Rattle.command_table.specs.Arity.{admits}
use Rattle.command_table.specs.Command.{told_of}
use Rattle.command_table.specs.HashCommands.{hash_rows, hlen_row, hget_row, hexists_row, hstrlen_row, hkeys_row, hvals_row, hgetall_row}
use Rattle.command_table.specs.HashCommands.{hmget_row, hdel_row, hsetnx_row, hset_row, hmset_row, hincrby_row, whole_pairs, with_pairs}
use Rattle.command_table.specs.KeyCommands.{key_rows, del_row, unlink_row, exists_row, type_row, rename_row, renamenx_row, dbsize_row}
use Rattle.command_table.specs.KeyCommands.{flushall_row}
use Rattle.command_table.specs.KeySpan.{NoKeys, AllThereAre, Between, ToLastWord, stepped, keys_in}
use Rattle.command_table.specs.ListCommands.{list_rows, llen_row, lpop_row, rpop_row, lpush_row, rpush_row, lpushx_row, rpushx_row}
use Rattle.command_table.specs.ListCommands.{lindex_row, lset_row, lrange_row, ltrim_row, lrem_row}
use Rattle.command_table.specs.ListCommands.{linsert_row, lmove_row, rpoplpush_row, side_of, end_of}
use Rattle.command_table.specs.LocalCommands.{local_rows, ping_row, echo_row}
use Rattle.command_table.specs.Reading.{rows, reading, IsTold}
use Rattle.command_table.specs.CommandRow.{CommandRow, Reading, pairs_reading, then_reading, integer_reading, row_of, row_reading, row_told}
use Rattle.command_table.specs.CommandRow.{reading_among}
use Rattle.command_table.specs.SetCommands.{set_rows, sadd_row, srem_row, sismember_row, smismember_row, scard_row, smembers_row}
use Rattle.command_table.specs.SetCommands.{smove_row, sinter_row, sunion_row, sdiff_row, sinterstore_row, sunionstore_row, sdiffstore_row}
use Rattle.command_table.specs.StringCommands.{string_rows, get_row, set_row, setnx_row, getset_row, getdel_row, mget_row, strlen_row}
use Rattle.command_table.specs.StringCommands.{getrange_row, options_condition}
use Rattle.command_table.specs.StringCommands.{incr_row, decr_row, incrby_row, decrby_row, append_row, setrange_row, mset_row, msetnx_row}
use Rattle.command_table.specs.declared.string_commands.StringCommand.TheVariants.{Mset, Msetnx}
use Rattle.command_table.specs.Telling.{KeysTold, All, These}
use Rattle.texts.specs.Texts.{firsts}
use Rattle.command_table.specs.Words.{Word, word, is_word, lower, pairs_of, integer_word}

-- every word, one by one
pub stepped-one : (ws : List Word) → stepped 1 0 ws ≡ ws
stepped-one [] = refl
stepped-one (w ∷ ws) = ap (λ t. w ∷ t) (stepped-one ws)

-- every second word
pub stepped-two : (ws : List Word) → (length ws % 2 == 0) ≡ true → stepped 2 0 ws ≡ firsts (pairs_of ws)
stepped-two [] h = refl
stepped-two (w ∷ []) h = absurd cc
stepped-two (w ∷ v ∷ ws) h = ap (λ t. w ∷ t) (stepped-two ws (grind (arith, nat_tests)))

-- what this row tells of the words is told of the command that is read, if one is
abbrev IsToldIn : CommandRow → List Word → Reading → Type 0
IsToldIn r words read = IfOk read (λ c. told_of c ≡ row_told r words)

-- a row tells of each command that it reads
abbrev pub Tells : CommandRow → Type 0
Tells r = (name : Word) (ws : List Word) → admits r.arity (length ws + 1) ≡ true → IsToldIn r (name ∷ ws) (r.reading ws)

with_row : (r : CommandRow) (words : List Word) (read : Reading) → IsToldIn r words read →
    IfOk read (λ c. (q : CommandRow) × (Some r ≡ Some q) × (told_of c ≡ row_told q words))
with_row r words (Ok c) e = (r, refl, e)
with_row r words (Err refused) e = tt

abbrev pub AllTell : List CommandRow → Type 0
AllTell [] = Unit {0}
AllTell (r ∷ rs) = Tells r × AllTell rs

-- the command that is read, if one is, has the row's name and these keys
abbrev pub IsToldAs : CommandRow → KeysTold → Reading → Type 0
IsToldAs r keys read = IfOk read (λ c. told_of c ≡ record { name = r.name; keys = keys })

with_keys : (r : CommandRow) (keys : KeysTold) (name : Word) (ws : List Word) (read : Reading) → keys_in r.keys (name ∷ ws) ≡ keys →
    IsToldAs r keys read
    → IsToldIn r (name ∷ ws) read
with_keys r keys name ws read span made = subst (λ k. IsToldAs r k read) (sym span) made

-- Each kind of key span, whatever row has it: what is left to show is that the command that is made holds these keys.
-- No keys, or all there are
pub tells-none : (r : CommandRow) → r.keys ≡ NoKeys → ((ws : List Word) → IsToldAs r (These []) (r.reading ws)) → Tells r
tells-none r span made name ws a = with_keys r (These []) name ws _ (ap (λ s. keys_in s (name ∷ ws)) span) (made ws)

pub tells-whole : (r : CommandRow) → r.keys ≡ AllThereAre → ((ws : List Word) → IsToldAs r All (r.reading ws)) → Tells r
tells-whole r span made name ws a = with_keys r All name ws _ (ap (λ s. keys_in s (name ∷ ws)) span) (made ws)

-- the first word
pub tells-one : (r : CommandRow) → r.keys ≡ Between 1 1 → admits r.arity 1 ≡ false
    → ((key : Word) (ws : List Word) → IsToldAs r (These (key ∷ [])) (r.reading (key ∷ ws))) → Tells r
tells-one r span few made name [] a = absurd cc
tells-one r span few made name (key ∷ ws) a =
    with_keys r (These (key ∷ [])) name (key ∷ ws) _ (ap (λ s. keys_in s (name ∷ key ∷ ws)) span) (made key ws)

-- the first two words
pub tells-two : (r : CommandRow) → r.keys ≡ Between 1 2 → admits r.arity 1 ≡ false → admits r.arity 2 ≡ false
    → ((key other : Word) (ws : List Word) → IsToldAs r (These (key ∷ other ∷ [])) (r.reading (key ∷ other ∷ ws))) → Tells r
tells-two r span none few made name [] a = absurd cc
tells-two r span none few made name (key ∷ []) a = absurd cc
tells-two r span none few made name (key ∷ other ∷ ws) a =
    with_keys r (These (key ∷ other ∷ [])) name (key ∷ other ∷ ws) _ (ap (λ s. keys_in s (name ∷ key ∷ other ∷ ws)) span)
    (made key other ws)

-- each word
pub tells-each : (r : CommandRow) → r.keys ≡ ToLastWord 1 1 → ((ws : List Word) → IsToldAs r (These ws) (r.reading ws)) → Tells r
tells-each r span made name ws a =
    with_keys r (These ws) name ws _ (ap (λ s. keys_in s (name ∷ ws)) span ∙ ap These (stepped-one ws)) (made ws)

-- each word, the first of which is a target and the others its sources
pub tells-target : (r : CommandRow) → r.keys ≡ ToLastWord 1 1 → admits r.arity 1 ≡ false
    → ((target : Word) (sources : List Word) → IsToldAs r (These (target ∷ sources)) (r.reading (target ∷ sources))) → Tells r
tells-target r span few made name [] a = absurd cc
tells-target r span few made name (target ∷ sources) a =
    with_keys r (These (target ∷ sources)) name (target ∷ sources) _
    (ap (λ s. keys_in s (name ∷ target ∷ sources)) span ∙ ap These (stepped-one (target ∷ sources))) (made target sources)

-- every second word, of pairs
pub tells-pairs : (r : CommandRow) (make : List (Word × Word) → Command) → r.keys ≡ ToLastWord 1 2 →
    ((ws : List Word) → r.reading ws ≡ pairs_reading r.name make ws)
    → ((pairs : List (Word × Word)) → told_of (make pairs) ≡ record { name = r.name; keys = These (firsts pairs) }) → Tells r
tells-pairs r make span reads made name ws a =
    subst (λ read. IsToldIn r (name ∷ ws) read) (sym (reads ws))
    (elim (length ws % 2 == 0)
    as (λ b. (length ws % 2 == 0) ≡ b → IsToldIn r (name ∷ ws) (if b then Ok (make (pairs_of ws)) else Err (refusal.Arity r.name))) [
      | true ↦ λ h. with_keys r (These (firsts (pairs_of ws))) name ws (Ok (make (pairs_of ws)))
          (ap (λ s. keys_in s (name ∷ ws)) span ∙ ap These (stepped-two ws h)) (made (pairs_of ws))
      | false ↦ λ h. tt
    ] refl)

ping_tells : (ws : List Word) → IsToldAs ping_row (These []) (ping_row.reading ws)
ping_tells [] = refl
ping_tells (w ∷ []) = refl
ping_tells (w ∷ v ∷ ws) = tt

-- words of which some may be refused, whatever they say
then_tells : {A : Type 0} (r : CommandRow) (keys : KeysTold) (o : Result A Refusal) (make : A → Reading) →
    ((said : A) → IsToldAs r keys (make said)) → IsToldAs r keys (then_reading o make)
then_tells r keys (Ok said) make made = made said
then_tells r keys (Err refused) make made = tt

-- a word that should be an integer, whatever it is
integer_tells : (r : CommandRow) (key w : Word) (make : ℤ → Reading) →
    ((n : ℤ) → IsToldAs r (These (key ∷ [])) (make n)) → IsToldAs r (These (key ∷ [])) (integer_reading w make)
integer_tells r key w make made = then_tells r (These (key ∷ [])) (integer_word w) make made

flushall_asked : (asked : Bool) → IsToldAs flushall_row All (if asked then Ok (Key Flushall) else Err refusal.Syntax)
flushall_asked true = refl
flushall_asked false = tt

flushall_tells : (ws : List Word) → IsToldAs flushall_row All (flushall_row.reading ws)
flushall_tells [] = refl
flushall_tells (w ∷ []) = flushall_asked (is_word (codes "async") w || is_word (codes "sync") w)
flushall_tells (w ∷ v ∷ ws) = tt

local_tell : AllTell local_rows
local_tell = (tells-none ping_row refl ping_tells, (tells-none echo_row refl (λ ws. refl), tt))

pub key_tell : AllTell key_rows
key_tell = (
  tells-each del_row refl (λ keys. refl),
  (
    tells-each unlink_row refl (λ keys. refl),
    (
      tells-each exists_row refl (λ keys. refl),
      (
        tells-one type_row refl refl (λ key ws. refl),
        (
          tells-two rename_row refl refl refl (λ from to ws. refl),
          (
            tells-two renamenx_row refl refl refl (λ from to ws. refl),
            (
              tells-whole dbsize_row refl (λ ws. refl),
              (
                tells-whole flushall_row refl flushall_tells,
                tt,
              ),
            ),
          ),
        ),
      ),
    ),
  ),
)

pub string_tell : AllTell string_rows
string_tell = (
  tells-one get_row refl refl (λ key ws. refl),
  (
    tells-one set_row refl refl (λ key ws. then_tells set_row (These (key ∷ [])) (options_condition (drop 1 ws)) _ (λ condition. refl)),
    (
      tells-one incr_row refl refl (λ key ws. refl),
      (
        tells-each mget_row refl (λ keys. refl),
        (
          tells-pairs mset_row (λ pairs. Str (Mset pairs)) refl (λ ws. refl) (λ pairs. refl),
          (
            tells-one setnx_row refl refl (λ key ws. refl),
            (
              tells-one getset_row refl refl (λ key ws. refl),
              (
                tells-one getdel_row refl refl (λ key ws. refl),
                (
                  tells-one strlen_row refl refl (λ key ws. refl),
                  (
                    tells-one getrange_row refl refl (λ key ws. integer_tells getrange_row key (word ws 0) _
                        (λ start. integer_tells getrange_row key (word ws 1) _ (λ end. refl))),
                    (
                      tells-one decr_row refl refl (λ key ws. refl),
                      (
                        tells-one incrby_row refl refl (λ key ws. integer_tells incrby_row key (word ws 0) _ (λ by. refl)),
                        (
                          tells-one decrby_row refl refl (λ key ws. integer_tells decrby_row key (word ws 0) _ (λ by. refl)),
                          (
                            tells-one append_row refl refl (λ key ws. refl),
                            (
                              tells-one setrange_row refl refl
                                  (λ key ws. integer_tells setrange_row key (word ws 0) _ (λ offset. refl)),
                              (
                                tells-pairs msetnx_row (λ pairs. Str (Msetnx pairs)) refl (λ ws. refl) (λ pairs. refl),
                                tt,
                              ),
                            ),
                          ),
                        ),
                      ),
                    ),
                  ),
                ),
              ),
            ),
          ),
        ),
      ),
    ),
  ),
)

pub list_tell : AllTell list_rows
list_tell = (
  tells-one lpush_row refl refl (λ key ws. refl),
  (
    tells-one rpush_row refl refl (λ key ws. refl),
    (
      tells-one lpop_row refl refl (λ key ws. refl),
      (
        tells-one rpop_row refl refl (λ key ws. refl),
        (
          tells-one lrange_row refl refl (λ key ws. integer_tells lrange_row key (word ws 0) _
              (λ start. integer_tells lrange_row key (word ws 1) _ (λ end. refl))),
          (
            tells-one llen_row refl refl (λ key ws. refl),
            (
              tells-one lpushx_row refl refl (λ key ws. refl),
              (
                tells-one rpushx_row refl refl (λ key ws. refl),
                (
                  tells-one lindex_row refl refl (λ key ws. integer_tells lindex_row key (word ws 0) _ (λ place. refl)),
                  (
                    tells-one lset_row refl refl (λ key ws. integer_tells lset_row key (word ws 0) _ (λ place. refl)),
                    (
                      tells-one ltrim_row refl refl (λ key ws. integer_tells ltrim_row key (word ws 0) _
                          (λ start. integer_tells ltrim_row key (word ws 1) _ (λ end. refl))),
                      (
                        tells-one lrem_row refl refl (λ key ws. integer_tells lrem_row key (word ws 0) _ (λ count. refl)),
                        (
                          tells-one linsert_row refl refl (λ key ws. then_tells linsert_row (These (key ∷ []))
                              (side_of (word ws 0)) _ (λ side. refl)),
                          (
                            tells-two lmove_row refl refl refl
                                (λ from to ws. then_tells lmove_row (These (from ∷ to ∷ [])) (end_of (word ws 0)) _
                                (λ taken. then_tells lmove_row (These (from ∷ to ∷ [])) (end_of (word ws 1)) _ (λ put. refl))),
                            (
                              tells-two rpoplpush_row refl refl refl (λ from to ws. refl),
                              tt,
                            ),
                          ),
                        ),
                      ),
                    ),
                  ),
                ),
              ),
            ),
          ),
        ),
      ),
    ),
  ),
)

pairs_tell : (r : CommandRow) (keys : KeysTold) (name : Word) (make : List (Word × Word) → HashCommand) →
    ((pairs : List (Word × Word)) → IsToldAs r keys (Ok (Hash (make pairs))))
    → (pairs : Option (List (Word × Word))) → IsToldAs r keys (with_pairs name make pairs)
pairs_tell r keys name make made (Some pairs) = made pairs
pairs_tell r keys name make made None = tt

pub hash_tell : AllTell hash_rows
hash_tell = (
  tells-one hset_row refl refl (λ key ws. pairs_tell hset_row (These (key ∷ [])) (codes "hset") (Hset key)
      (λ pairs. refl) (whole_pairs ws)),
  (
    tells-one hget_row refl refl (λ key ws. refl),
    (
      tells-one hmget_row refl refl (λ key ws. refl),
      (
        tells-one hgetall_row refl refl (λ key ws. refl),
        (
          tells-one hdel_row refl refl (λ key ws. refl),
          (
            tells-one hincrby_row refl refl (λ key ws. integer_tells hincrby_row key (word ws 1) _ (λ by. refl)),
            (
              tells-one hlen_row refl refl (λ key ws. refl),
              (
                tells-one hexists_row refl refl (λ key ws. refl),
                (
                  tells-one hstrlen_row refl refl (λ key ws. refl),
                  (
                    tells-one hkeys_row refl refl (λ key ws. refl),
                    (
                      tells-one hvals_row refl refl (λ key ws. refl),
                      (
                        tells-one hsetnx_row refl refl (λ key ws. refl),
                        (
                          tells-one hmset_row refl refl (λ key ws. pairs_tell hmset_row (These (key ∷ [])) (codes "hmset") (Hmset key)
                              (λ pairs. refl) (whole_pairs ws)),
                          tt,
                        ),
                      ),
                    ),
                  ),
                ),
              ),
            ),
          ),
        ),
      ),
    ),
  ),
)

pub set_tell : AllTell set_rows
set_tell = (
  tells-one sadd_row refl refl (λ key ws. refl),
  (
    tells-one srem_row refl refl (λ key ws. refl),
    (
      tells-one sismember_row refl refl (λ key ws. refl),
      (
        tells-one smismember_row refl refl (λ key ws. refl),
        (
          tells-one scard_row refl refl (λ key ws. refl),
          (
            tells-one smembers_row refl refl (λ key ws. refl),
            (
              tells-two smove_row refl refl refl (λ from to ws. refl),
              (
                tells-each sinter_row refl (λ keys. refl),
                (
                  tells-each sunion_row refl (λ keys. refl),
                  (
                    tells-each sdiff_row refl (λ keys. refl),
                    (
                      tells-target sinterstore_row refl refl (λ target sources. refl),
                      (
                        tells-target sunionstore_row refl refl (λ target sources. refl),
                        (
                          tells-target sdiffstore_row refl refl (λ target sources. refl),
                          tt,
                        ),
                      ),
                    ),
                  ),
                ),
              ),
            ),
          ),
        ),
      ),
    ),
  ),
)

AllTell-append : (rs qs : List CommandRow) → AllTell rs → AllTell qs → AllTell (rs ++ qs)
AllTell-append [] qs a b = b
AllTell-append (r ∷ rs) qs a b = (a.0, AllTell-append rs qs a.1 b)

all_tell : AllTell rows
all_tell =
    AllTell-append local_rows (key_rows ++ string_rows ++ list_rows ++ hash_rows ++ set_rows) local_tell
    (AllTell-append key_rows (string_rows ++ list_rows ++ hash_rows ++ set_rows) key_tell
    (AllTell-append string_rows (list_rows ++ hash_rows ++ set_rows) string_tell
    (AllTell-append list_rows (hash_rows ++ set_rows) list_tell (AllTell-append hash_rows set_rows hash_tell set_tell))))

told_by_row : (r : CommandRow) → Tells r → (name : Word) (ws : List Word) → IsToldIn r (name ∷ ws) (row_reading r ws)
told_by_row r tells name ws =
    elim (admits r.arity (length ws + 1))
    as (λ b. admits r.arity (length ws + 1) ≡ b → IsToldIn r (name ∷ ws) (if b then r.reading ws else Err (refusal.Arity r.name)))
    [ true ↦ λ a. tells name ws a | false ↦ λ a. tt ] refl

-- the row that these words name tells of the command
abbrev IsToldAmong : List CommandRow → Word → List Word → Command → Type 0
IsToldAmong rs n words c = (r : CommandRow) × (row_of rs n ≡ Some r) × (told_of c ≡ row_told r words)

told_among : (rs : List CommandRow) → AllTell rs → (n name : Word) (ws : List Word) →
    IfOk (unwrap_or (reading_among rs n ws) (Err refusal.Unknown)) (IsToldAmong rs n (name ∷ ws))
told_among [] tell n name ws = tt
told_among (r ∷ rs) tell n name ws =
    elim (bytes_eq n r.name)
    as (λ b. IfOk (unwrap_or (option_map (λ x. row_reading x ws) (if b then Some r else row_of rs n)) (Err refusal.Unknown))
    (λ c. (q : CommandRow) × ((if b then Some r else row_of rs n) ≡ Some q) × (told_of c ≡ row_told q (name ∷ ws))))
    [ true ↦ with_row r _ _ (told_by_row r tell.0 name ws) | false ↦ told_among rs tell.1 n name ws ]

-- the table tells of each command that it reads
pub told : (words : List Word) → IfOk (reading words) (IsTold words)
told [] = tt
told (name ∷ ws) = told_among rows all_tell (lower name) name ws

pub told_if : (words : List Word) (read : Reading) → read ≡ reading words → IfOk read (IsTold words)
told_if words read e = subst (λ r. IfOk r (IsTold words)) (sym e) (told words)
