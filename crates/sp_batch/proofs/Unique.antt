-- A text begins with one record at most, and is a batch of one list of records at most.
use Rattle.std.proofs.Common.{◌≡◌, ◌≢◌, ℕ, List, [], ◌∷◌, refl, ap, sym, subst, ◌∙◌, inl, inr, Some}
use Rattle.std.specs.Prelude.{◌⊎◌}
use Rattle.sp_base.specs.declared.kinds.BKind.TheVariants.{BadHeader, BadRecord, UnknownFlow, FlowTwice, UnknownParser, CutShort}
use Rattle.sp_batch.specs.declared.record.Record.{Record}
use Rattle.sp_batch.specs.Grammar.{IsRecord, IsCutShort, IsBad, AreRecords}
use Rattle.sp_batch.specs.Reading.{Reading, found, bad, read}
use Rattle.sp_batch.specs.Laws.{OneRecord, OneAnswer, SomeAnswer, OneBatch}
use Rattle.sp_batch.proofs.Texts.{header_of, same_record, read_sound, read_bad, read_record, read_cut, read_wrong, some_text}

pub one_record : OneRecord
one_record text rest other r s a b = same_record r s rest other (sym (read_record text r rest a) ∙ read_record text s other b)

either : (text : List ℕ) (reading : Reading) → text ≢ [] → read text ≡ reading → ((r : Record) × (rest : List ℕ) × IsRecord text r rest) ⊎ IsCutShort text ⊎ IsBad text
either text (found r rest) some e = inl (r, rest, read_sound text r rest e)
either text (bad BadRecord) some e = inr (inr (read_bad text BadRecord some e))
either text (bad CutShort) some e = inr (inl (read_bad text CutShort some e))
either text (bad BadHeader) some e = absurd (read_bad text BadHeader some e)
either text (bad UnknownFlow) some e = absurd (read_bad text UnknownFlow some e)
either text (bad FlowTwice) some e = absurd (read_bad text FlowTwice some e)
either text (bad UnknownParser) some e = absurd (read_bad text UnknownParser some e)

pub some_answer : SomeAnswer
some_answer text some = either text (read text) some refl

pub one_answer : OneAnswer
one_answer text rest r = (
  λ a b. absurd (let e : found r rest ≡ bad CutShort = sym (read_record text r rest a) ∙ read_cut text b in cc),
  λ a b. absurd (let e : found r rest ≡ bad BadRecord = sym (read_record text r rest a) ∙ read_wrong text b in cc),
  λ a b. absurd (let e : bad CutShort ≡ bad BadRecord = sym (read_cut text a) ∙ read_wrong text b in cc),
)

one_list : (text other : List ℕ) (rs ss : List Record) → text ≡ other → AreRecords text rs → AreRecords other ss → rs ≡ ss
one_list text other [] [] e a b = refl
one_list text other [] (s ∷ ss) e a b = absurd (some_text other s b.0 b.1 (sym e ∙ a))
one_list text other (r ∷ rs) [] e a b = absurd (some_text text r a.0 a.1 (e ∙ b))
one_list text other (r ∷ rs) (s ∷ ss) e a b =
    let one = one_record text a.0 b.0 r s a.1 (subst (λ t. IsRecord t s b.0) (sym e) b.1) in
    ap (λ t. t ∷ rs) one.0 ∙ ap (λ ts. s ∷ ts) (one_list a.0 b.0 rs ss one.1 a.2 b.2)

pub one_batch : OneBatch
one_batch text rs ss a b =
    let same : a.0 ≡ b.0 = (let f : Some a.0 ≡ Some b.0 = sym (header_of text a.0 a.1) ∙ header_of text b.0 b.1 in cc) in
    one_list a.0 b.0 rs ss same a.2 b.2
