-- The hashes of identities, which begin with a salt, and the salt for a cluster that will take given commands.
use Rattle.std.specs.Prelude.{ℕ, ◌+◌, ◌*◌, ◌^◌, List, fold}
use Rattle.std.specs.Hash as fed
use Rattle.std.specs.Hash.DefaultHasher as sip
use Rattle.std.specs.declared.hash.DefaultHasher.{DefaultHasher}
use Rattle.mencius_base.specs.declared.command.Command.{Command}
use Rattle.mencius_base.specs.declared.command.CommandId.{CommandId}

-- an identity as one word, below 2 ^ 64
abbrev pub identity_word : CommandId → ℕ
identity_word id = id.client * 2 ^ 32 + id.number

-- a hasher that has hashed a salt
abbrev pub hasher_with : ℕ → DefaultHasher
hasher_with salt = fold sip.write sip.initial (fed.u64 salt)

-- the hash that this hasher gives once it has also hashed an identity
abbrev pub hash_by : DefaultHasher → CommandId → ℕ
hash_by hasher id = sip.finish (fold sip.write hasher (fed.u64 (identity_word id)))

-- a hasher after it has hashed the identity of a command, with `write` to hash one number
abbrev pub after_identity : {H : Type 0} → (H → List ℕ → H) → H → Command → H
after_identity write hasher command = fold write hasher (fed.u64 (identity_word command.id))

-- the hash of a salt followed by the identities of these commands
abbrev pub salt_after : ℕ → List Command → ℕ
salt_after salt commands = sip.finish (fold (after_identity sip.write) (hasher_with salt) commands)
