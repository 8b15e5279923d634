-- A fresh table of records represents the fresh table with lists of its kind.
use Prim.Native.Nat.{ℕ, ◌-◌, ◌≤◌, ◌<◌}
use mathlib.Core.Path.{◌≡◌, refl, ap, ◌∙◌, fun_ext}
use mathlib.Core.Bool.{Bool, true, false}
use mathlib.Core.List.{[]}
use native.Mathlib.Omega.{arith}
use Rattle.laws.specs.Count.{count}
use Rattle.laws.proofs.{Choice.by_equal, Count.count_none, Sequence.tabulate_length}
use Rattle.chains.specs.declared.named.Chain.{Chain}
use Rattle.chains.proofs.Links.{Links, LinksRepresent}
use Rattle.lock_word.specs.Read.{read_word, read_flat, read_reserved}
use Rattle.lock_word.specs.Write.{write_word}
use Rattle.lock_rules.proofs.{Each.each_chain, Objects.chain_of}
use Rattle.lock_rules.proofs.Tables.{fresh_word, fresh}
use Rattle.lock_table.specs.Limits.{thread_limit, object_limit, rank_limit}
use Rattle.lock_table.specs.Record.{no_object, with_word}
use Rattle.lock_table.specs.Fresh.{no_thread_given, first_word, fresh_thread, thread_from, object_from, InRange, table_of}
use Rattle.lock_table.specs.declared.fresh_table.{ThreadGiven.ThreadGiven, FreshRequest.FreshRequest}
use Rattle.lock_table.proofs.FreshTables.{given_to, fresh_rank, thread_past, fresh_thread_at, fresh_used, fresh_past}
use Rattle.lock_perform.specs.State.{write_activity}
use Rattle.sound_records.specs.Records.{word_fits}
use Rattle.sound_records.proofs.Reading.{ranked_thread_fits, word_alone_fits}
use Rattle.lock_records.proofs.Numbering.{lists_of, list_at, by_number}
use Rattle.lock_records.proofs.{Written.word_written, Represents.Represents}

-- every chain empty
abbrev no_links : Links
no_links = record { next = λ n. 0; first = λ c. 0 }

fresh_represent : (reserved : Bool) (rank : ℕ → ℕ) → LinksRepresent no_links (lists_of ((fresh reserved rank).objects))
fresh_represent reserved rank =
    record { chain = λ c. rw (none c); apart = λ c d n h k. absurd (omega (arith, h, ap (count n) (none c), count_none n)); loose = λ n h. refl }
  where
    empty : (o : ℕ) (chain : Chain) → chain_of chain ((fresh reserved rank).objects o) ≡ []
    empty o = each_chain _ (search)

    none : (c : ℕ) → lists_of ((fresh reserved rank).objects) c ≡ []
    none = by_number (λ c. lists_of ((fresh reserved rank).objects) c ≡ []) (λ o chain. list_at ((fresh reserved rank).objects) o chain ∙ empty o chain)

-- the first word is that of the kind
first_word_written : (o : ℕ) (reserved : Bool) → first_word reserved ≡ word_written o (fresh_word reserved)
unfolding first_word write_word
first_word_written o true = refl
first_word_written o false = refl

-- both first words are valid, with no thread
first_word_fits : (threads o : ℕ) (reserved : Bool) → word_fits threads o (read_word (first_word reserved)) ≡ true
unfolding first_word read_word read_flat read_reserved word_fits
first_word_fits threads o true = refl
first_word_fits threads o false = refl

module _ (request : FreshRequest) (in_range : InRange request) where
  pub fresh_represents : Represents request.threads request.objects (table_of request) (fresh request.reserved (fresh_rank request))
  unfolding write_activity
  fresh_represents =
      record {
        threadcount = refl;
        objectcount = refl;
        thread_room = in_range.1;
        object_room = in_range.3;
        given = record {
          thread = λ n. fresh_thread (given_to request n);
          object = λ o. with_word no_object (first_word request.reserved);
          thread_fits = λ n low high. ranked_thread_fits request.objects n (fresh_rank request n) (rank_low n);
          thread_past = λ n past. ap fresh_thread (none_given n past);
          object_fits = λ o low high. word_alone_fits request.threads o (first_word request.reserved) (first_word_fits request.threads o request.reserved);
        };
        links = no_links;
        chains = fresh_represent request.reserved (fresh_rank request);
        written = record { records = fun_ext (fresh_thread_at request); full = tabulate_length thread_limit (thread_from request) };
        objects_full = tabulate_length object_limit (object_from request);
        object_is = λ o real small. fresh_used request in_range.3 o real small
            ∙ (λ j. with_word no_object (first_word_written o request.reserved j));
        object_past = λ o past. fresh_past request in_range.3 o past;
        ranked = λ o. refl;
      }
    where
      rank_low : (n : ℕ) → fresh_rank request n ≤ rank_limit
      rank_low n = by_equal (λ (given : ThreadGiven). given.rank ≤ rank_limit) n 0 (λ e. omega arith) (λ e. in_range.4 (n - 1))

      none_given : (n : ℕ) → request.threads < n → given_to request n ≡ no_thread_given
      none_given n past = by_equal (λ (given : ThreadGiven). given ≡ no_thread_given) n 0 (λ e. refl) (λ e. thread_past request (n - 1) (omega (arith, past)))
