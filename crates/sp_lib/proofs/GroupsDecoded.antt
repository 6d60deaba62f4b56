-- What the standard engine of `base64` decodes is a group.
use Rattle.std.proofs.Common.{◌≡◌, ◌≤◌, ◌<◌, ◌+◌, ◌-◌, ℕ, List, [], ◌∷◌, length, take, drop, replicate, Ok, Err, refl, ap, sym, subst, ◌∙◌, arith, OnOk}
use Rattle.std.specs.Prelude.{◌↔◌, Result}
use Rattle.std.proofs.lemmas.List.{length-append, length-replicate, drop-replicate}
use Rattle.base64.specs.declared.decode.DecodeSliceError.{DecodeSliceError}
use Rattle.base64.specs.declared.decode.DecodeSliceError.TheVariants.{DecodeError as DecodeFailed, OutputSliceTooSmall}
use Rattle.base64.specs.Engines.{standard}
use Rattle.base64.specs.GeneralPurpose.{encode_of, decode_of, decode_slice_of, decoded_bytes_of, IsBytes, IsStrict}
use Rattle.base64.specs.Rfc4648.{encode_symbols, unpadded_len, padding_len}
use Rattle.base64.specs.Decode.{IsWrittenOver}
use Rattle.base64.proofs.EngineFacts.{decode_of_iff, decode_of_bytes}
use Rattle.base64.proofs.Decoding.{conservative_ok, conservative_err, conservative_small}
use Rattle.base64.proofs.RoundTrip.{length-encode_symbols}
use Rattle.sp_lib.specs.Base64.{symbols, IsGroup}

strict : IsStrict standard
strict = (refl, refl)

-- the standard encoding of one to three bytes is their symbols
encode_is : (bytes : List ℕ) → 0 < length bytes → length bytes ≤ 3 → encode_of standard bytes ≡ symbols bytes
unfolding encode_symbols
encode_is [] some short = absurd (omega arith)
encode_is (a ∷ []) some short = refl
encode_is (a ∷ b ∷ []) some short = refl
encode_is (a ∷ b ∷ c ∷ []) some short = refl
encode_is (a ∷ b ∷ c ∷ d ∷ rest) some short = absurd (omega arith)

symbols_length : (bytes : List ℕ) → length (symbols bytes) ≡ 4 → (0 < length bytes) × (length bytes ≤ 3)
symbols_length [] e = absurd (omega arith)
symbols_length (a ∷ []) e = (omega arith, omega arith)
symbols_length (a ∷ b ∷ []) e = (omega arith, omega arith)
symbols_length (a ∷ b ∷ c ∷ []) e = (omega arith, omega arith)
symbols_length (a ∷ b ∷ c ∷ d ∷ rest) e = absurd (omega arith)

encode_length : (bytes : List ℕ) → length (encode_of standard bytes) ≡ 4 → (0 < length bytes) × (length bytes ≤ 3)
encode_length bytes e =
    let pad : ℕ = 61 in
    let joined = length-append (encode_symbols standard.encode_table bytes) (replicate (padding_len (length bytes)) pad) in
    let front = length-encode_symbols standard.encode_table bytes in
    let pads = length-replicate (padding_len (length bytes)) pad in
    let all : unpadded_len (length bytes) + padding_len (length bytes) ≡ 4 = omega (arith, joined, front, pads, e) in
    (omega arith, omega arith)

-- a group, by what the engine decodes
group_decodes : (four bytes : List ℕ) → length four ≡ 4 → IsBytes four → IsGroup four bytes → decode_of standard four ≡ Ok bytes
group_decodes four bytes size is group =
    let n = symbols_length bytes (ap length (sym group.symbols_are) ∙ size) in
    (decode_of_iff standard four bytes strict is group.bytes_are).1 (group.symbols_are ∙ sym (encode_is bytes n.0 n.1))

decodes_group : (four bytes : List ℕ) → length four ≡ 4 → IsBytes four → IsBytes bytes → decode_of standard four ≡ Ok bytes → IsGroup four bytes
decodes_group four bytes size is are e =
    let encoded : four ≡ encode_of standard bytes = (decode_of_iff standard four bytes strict is are).0 e in
    let n = encode_length bytes (ap length (sym encoded) ∙ size) in
    record { symbols_are = encoded ∙ encode_is bytes n.0 n.1; bytes_are = are }

-- what was decoded into three zeros
decoded_into : (four new : List ℕ) (r : Result ℕ DecodeSliceError) (n : ℕ) → length four ≡ 4 → r ≡ decode_slice_of standard four 3 → r ≡ Ok n
    → OnOk r (IsWrittenOver (decoded_bytes_of standard four) (replicate 3 0) new) → (decode_of standard four ≡ Ok (take n new)) × (drop n new ≡ drop n (replicate 3 0)) × (n ≤ 3)
decoded_into four new r n size value ok written =
    conservative_ok standard.decode_table four (replicate 3 0) new standard.padding.value standard.config.decode_allow_trailing_bits standard.config.decode_padding_mode r n
    (omega (arith, size)) value ok written

pub group_of : (four new : List ℕ) (r : Result ℕ DecodeSliceError) (n : ℕ) → length four ≡ 4 → IsBytes four → r ≡ decode_slice_of standard four 3 → r ≡ Ok n
    → OnOk r (IsWrittenOver (decoded_bytes_of standard four) (replicate 3 0) new) → OnOk r (IsBytes (decoded_bytes_of standard four))
    → (bytes : List ℕ) → IsGroup four bytes ↔ (bytes ≡ take n new)
group_of four new r n size is value ok written are bytes =
    let p = decoded_into four new r n size value ok written in
    let made : IsBytes (decoded_bytes_of standard four) = rw ok at are in (
      λ group. (let same : Ok bytes ≡ Ok (take n new) = sym (group_decodes four bytes size is group) ∙ p.0 in cc),
      λ e. decodes_group four bytes size is (subst IsBytes (sym e) (decode_of_bytes standard four (take n new) made p.0)) (p.0 ∙ ap Ok (sym e)),
    )

pub rest_of : (four new : List ℕ) (r : Result ℕ DecodeSliceError) (n : ℕ) → length four ≡ 4 → r ≡ decode_slice_of standard four 3 → r ≡ Ok n
    → OnOk r (IsWrittenOver (decoded_bytes_of standard four) (replicate 3 0) new) → drop n new ≡ replicate (3 - n) 0
rest_of four new r n size value ok written = (decoded_into four new r n size value ok written).1 ∙ drop-replicate n 3 0

pub few : (four new : List ℕ) (r : Result ℕ DecodeSliceError) (n : ℕ) → length four ≡ 4 → r ≡ decode_slice_of standard four 3 → r ≡ Ok n
    → OnOk r (IsWrittenOver (decoded_bytes_of standard four) (replicate 3 0) new) → n ≤ 3
few four new r n size value ok written = (decoded_into four new r n size value ok written).2

pub no_group : (four : List ℕ) (r : Result ℕ DecodeSliceError) (f : DecodeSliceError) → length four ≡ 4 → IsBytes four → r ≡ decode_slice_of standard four 3 → r ≡ Err f
    → (bytes : List ℕ) → IsGroup four bytes → ⊥
no_group four r OutputSliceTooSmall size is value failed bytes group =
    conservative_small standard.decode_table four standard.padding.value standard.config.decode_allow_trailing_bits standard.config.decode_padding_mode 3 r OutputSliceTooSmall
    (omega (arith, size)) value failed refl
no_group four r (DecodeFailed e) size is value failed bytes group =
    let bad = conservative_err standard.decode_table four standard.padding.value standard.config.decode_allow_trailing_bits standard.config.decode_padding_mode 3 r (DecodeFailed e) e
    (omega (arith, size)) value failed refl in
    let twice : Ok bytes ≡ Err e = sym (group_decodes four bytes size is group) ∙ bad in
    absurd (cc)
