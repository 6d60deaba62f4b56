-- What is asked where a list is loaded or refused.
use Rattle.std.proofs.Common.{ℕ, List, [], Option, Some, None, refl, sym, inl, inr}
use Rattle.sp_read_file.specs.declared.unread.Unread.{Unread}
use Rattle.sp_front.specs.declared.entries.ModuleFile.{ModuleFile}
use Rattle.sp_front.specs.Lists.{Files, IsList}
use Rattle.sp_front.specs.Asked.{Asks, AsksAll, AsksList, AsksRefused, AsksNoMore}
use Rattle.sp_front.specs.inside.Follow.{IsRefusedBy}
use Rattle.sp_front.proofs.Asking.{also_nil}

pub all_of_list : (files : Files) (names dirs : List (List ℕ)) (fs : List ModuleFile) (before after : Option (List (List ℕ))) → IsList files names dirs fs
    → Asks files before after (λ told. AsksList told names dirs fs) → Asks files before after (λ told. AsksAll told names dirs)
all_of_list None names dirs fs before after list asks = tt
all_of_list (Some files) names dirs fs before after list (paths, is, asked) = (paths, is, inl (fs, list, asked))

pub all_of_refusal : (files : Files) (names dirs : List (List ℕ)) (u : Unread) (before after : Option (List (List ℕ)))
    → IsRefusedBy (λ r. Asks files before after (λ told. AsksRefused told names dirs r)) u → IsRefusedBy (λ _. Asks files before after (λ told. AsksAll told names dirs)) u
all_of_refusal None names dirs (Unread.Refused r) before after asks = tt
all_of_refusal (Some files) names dirs (Unread.Refused r) before after (paths, is, asked) = (paths, is, inr (r, asked))
all_of_refusal files names dirs Unread.ModulesFault before after asks = tt
all_of_refusal files names dirs Unread.NoMemory before after asks = tt

-- nothing was asked yet
pub none_asked : (files : Files) (names dirs : List (List ℕ)) (before : Option (List (List ℕ))) → Asks files before before (λ told. AsksNoMore told names dirs)
none_asked None names dirs before = tt
none_asked (Some files) names dirs before = ([], sym (also_nil before), inl (0, refl))
