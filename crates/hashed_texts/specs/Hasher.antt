-- What hashes a text: the one hasher of a fixed seed, or one with keys of its own. Each is std's.
use Rattle.std.specs.Prelude.{ℕ, List}
use Rattle.std.specs.Hash.FoldHasher as fixed
use Rattle.std.specs.Hash.DefaultHasher as keyed
use Rattle.std.specs.RandomState.{initial_hasher}
use Rattle.hashed_texts.specs.declared.hasher.TextHasher.{TextHasher}
use Rattle.hashed_texts.specs.declared.hasher.TextHash.{TextHash}
use Rattle.hashed_texts.specs.declared.hasher.TextHasher.TheVariants as maker
use Rattle.hashed_texts.specs.declared.hasher.TextHash.TheVariants as hasher

abbrev pub hasher_of : TextHasher → TextHash
hasher_of maker.Fixed = hasher.Fixed fixed.initial
hasher_of (maker.Random state) = hasher.Random (initial_hasher state)

abbrev pub written : TextHash → List ℕ → TextHash
written (hasher.Fixed h) bytes = hasher.Fixed (fixed.write h bytes)
written (hasher.Random h) bytes = hasher.Random (keyed.write h bytes)

abbrev pub finished : TextHash → ℕ
finished (hasher.Fixed h) = fixed.finish h
finished (hasher.Random h) = keyed.finish h
