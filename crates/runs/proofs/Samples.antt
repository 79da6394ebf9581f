-- Two histories, computed: a handshake and packets as sent, and the same handshake with a nonce altered on the way.
use Rattle.std.proofs.Common.{◌≡◌, ℕ, ◌+◌, ◌*◌, ◌%◌, ◌^◌, List, [], ◌∷◌, ◌++◌, get_or, replicate, refl, ap, inl, inr, arith, Ok}
use Rattle.keyed.specs.Derivation.{split, seed, master_string, master_key, encryption_string, encryption_key, integrity_string, integrity_key, counter_string, first_counter}
use Rattle.keyed.specs.Keystream.{counter_block, streamed, xored}
use Rattle.keyed.specs.Strings.{confirmation, three, packet}
use Rattle.keyed.specs.Xcbc.{xors, chain, padded, closed, key1, key2, key3, keyed_result, tag}
use Rattle.ends.specs.declared.Role.TheVariants.{Fob as AtFob, Mixer as AtMixer}
use Rattle.runs.specs.History.{Call, invite, answer, prove, confirm, finish, seal, unseal, history}
use Rattle.runs.specs.Some.{Run, SomeRun, SomeRunAltered}
use Rattle.runs.proofs.Model.{Octets}
use Rattle.runs.proofs.Tests.{no_lucky_tag, nonces_as_sent}

-- octets mixed into a number below 2 ^ 128, and a cipher made of it
mixed : ℕ → Octets → ℕ
mixed a [] = a
mixed a (o ∷ os) = mixed ((a + o + 1) * 0x9E3779B97F4A7C15F39CC0605CEDC835 % 2 ^ 128) os

toy : Octets → Octets → Octets
toy k x = counter_block (mixed 1 (k ++ x))

-- the calls of a handshake and a packet, in which the fob's nonce arrives with the last octet n
handshake : ℕ → List Call
handshake n =
    invite (replicate 12 5) (replicate 40 0)
    ∷ answer (replicate 12 6) (1 ∷ 1 ∷ 3 ∷ replicate 25 1 ++ replicate 11 5 ++ n ∷ []) (replicate 256 0) (replicate 40 0)
    ∷ prove (2 ∷ 1 ∷ 3 ∷ replicate 25 2 ++ replicate 12 6) (replicate 256 0) (replicate 15 0)
    ∷ confirm (3 ∷ 1 ∷ 16 ∷ 176 ∷ 127 ∷ 218 ∷ 219 ∷ 46 ∷ 96 ∷ 228 ∷ 237 ∷ 226 ∷ 133 ∷ 162 ∷ 211 ∷ []) (replicate 256 0) (replicate 15 0)
    ∷ finish (4 ∷ 1 ∷ 16 ∷ 198 ∷ 253 ∷ 209 ∷ 127 ∷ 127 ∷ 162 ∷ 209 ∷ 7 ∷ 48 ∷ 200 ∷ 163 ∷ 28 ∷ []) (replicate 256 0)
    ∷ seal AtFob (9 ∷ 8 ∷ []) (replicate 256 0) (replicate 23 0)
    ∷ unseal AtMixer (5 ∷ 1 ∷ 28 ∷ 0 ∷ 0 ∷ 1 ∷ 0 ∷ 0 ∷ 2 ∷ 130 ∷ 101 ∷ 14 ∷ 54 ∷ 36 ∷ 132 ∷ 238 ∷ 107 ∷ 72 ∷ 234 ∷ 54 ∷ 47 ∷ 177 ∷ 73 ∷ []) (replicate 256 0)
    (replicate 4096 0)
    ∷ []

-- a packet back
reply : List Call
reply =
    seal AtMixer (7 ∷ 6 ∷ 5 ∷ []) (replicate 256 0) (replicate 24 0)
    ∷ unseal AtFob (5 ∷ 1 ∷ 28 ∷ 0 ∷ 0 ∷ 2 ∷ 0 ∷ 0 ∷ 3 ∷ 46 ∷ 163 ∷ 89 ∷ 189 ∷ 125 ∷ 0 ∷ 126 ∷ 165 ∷ 113 ∷ 46 ∷ 247 ∷ 225 ∷ 97 ∷ 254 ∷ 66 ∷ []) (replicate 256 0)
    (replicate 4096 0)
    ∷ []

run : List Call → Run
unfolding toy counter_block
run calls = record {
  pid = 1;
  cipher = toy;
  lookups = record {
    fob_own = λ k. replicate 25 1;
    fob_replies = λ k q. Ok (replicate 24 7);
    mixer_own = λ k. replicate 25 2;
    mixer_replies = λ k q. Ok (replicate 24 7);
  };
  fob = record { identities = record { fob = replicate 10 3; mixer = replicate 10 4 }; cipher = record {} };
  mixer = record { identities = record { fob = replicate 10 3; mixer = replicate 10 4 }; cipher = record {} };
  calls = calls;
  blocks = λ k x. refl;
  named = record { fob_10 = refl; mixer_10 = refl; fob_10' = refl; mixer_10' = refl };
  fob_25 = refl;
  mixer_25 = refl;
}

pub as_sent : SomeRun
unfolding history run handshake reply toy mixed counter_block streamed xored xors chain padded closed key1 key2 key3 keyed_result tag split seed master_string master_key encryption_string encryption_key integrity_string integrity_key counter_string first_counter confirmation three packet
as_sent =
    let r : Run = run (handshake 5 ++ reply) in
    let h = history r.pid r.cipher r.lookups r.fob tt r.mixer tt r.calls in
    record {
      run = r;
      no_lucky_tag = no_lucky_tag toy h refl refl;
      nonces_as_sent = nonces_as_sent h.log refl;
      mixer_opens = inr (inr (inr (inr (inr (inr (inr (inr (inr (inr (inr (inl refl)))))))))));
      fob_opens = inr (inr (inr (inr (inr (inr (inr (inr (inl refl))))))));
      to_mixer = inr (inr (inr (inr (inl refl))));
      to_fob = inl refl;
    }

pub altered : SomeRunAltered
unfolding history run handshake toy mixed counter_block streamed xored xors chain padded closed key1 key2 key3 keyed_result tag split seed master_string master_key encryption_string encryption_key integrity_string integrity_key counter_string first_counter confirmation three packet
altered =
    let r : Run = run (handshake 6) in
    let h = history r.pid r.cipher r.lookups r.fob tt r.mixer tt r.calls in
    record {
      run = r;
      payload = 9 ∷ 8 ∷ [];
      other_payload = 121 ∷ 136 ∷ [];
      no_lucky_tag = no_lucky_tag toy h refl refl;
      mixer_opens = inr (inr (inr (inr (inr (inr (inr (inl refl)))))));
      fob_opens = inr (inr (inr (inr (inl refl))));
      sealed_so = refl;
      unsealed_so = refl;
      not_the_same = λ e. let z : ◌≡◌ {A = ℕ} 121 9 = ap (λ (l : Octets). get_or l 0 0) e in absurd (omega arith);
    }
