-- Images computed in the logic: a fresh log's, that of the log at the end of document 01's replay, and what becomes of
-- the latter when it is cut or changed.
use Rattle.words.proofs.Prelude.{◌≡◌, refl, ℕ, ◌-◌, false, some, List, [], ◌∷◌, ◌++◌, map, length, take, drop}
use Rattle.words.proofs.Prelude.{replicate}
use Rattle.words.specs.All.{all_of}
use Rattle.words.specs.Words.{laid}
use Rattle.records.specs.Big.{big, onto}
use Rattle.records.specs.Sealed.{total, seal, packed, unpacked, sum_holds, is_sealed}
use Rattle.entry.specs.Limits.{most_nodes, most_metadata, last_word}
use Rattle.entry.specs.Change.{change}
use Rattle.entry.specs.Sign.{sign_formed}
use Rattle.entry.specs.Order.{no_ballot}
use Rattle.entry.specs.Guards.{first, Answer, replied, refused}
use Rattle.model.specs.Numbers.{end_of, accepted_of, stop_decided, log_decided, numbers_formed}
use Rattle.model.specs.Log.{Log, fresh_log}
use Rattle.image.specs.Layout.{run_bytes}
use Rattle.image.specs.Image.{image_of}
use Rattle.image.specs.Reading.{head_at, head_formed, head_sound, sound_at, sound_run, run_end, whole}
use Rattle.image.specs.Calls.{image_guards, read_image}

abbrev fresh_image : List ℕ
fresh_image = 0xc7 ∷ 0x48 ∷ 0x00 ∷ 0x01 ∷ 0x00 ∷ (replicate 56 0x00 ++ (0x01 ∷ 0x10 ∷ []))

pub fresh_image_lem : (image_of (fresh_log 5) ≡ fresh_image) × (read_image 5 fresh_image ≡ replied (fresh_log 5))
unfolding big onto total packed unpacked sum_holds is_sealed first end_of accepted_of stop_decided log_decided numbers_formed fresh_log run_bytes image_of head_at head_formed head_sound sound_at sound_run run_end whole image_guards read_image
fresh_image_lem = (refl, refl)

-- "snapshot 3 2", "stop 7 yes"; the decided index is given
abbrev replayed : ℕ → Log
replayed decided = record {
  run = record { compacted = 3; retained = []; held = some (change 4 200 ∷ change 9 last_word ∷ []) };
  tail = record {
    batched = [];
    size = 0;
    sign = some (record {
      config_id = 7;
      node_count = 1;
      nodes = 1 ∷ replicate (most_nodes - 1) 0;
      metadata_held = false;
      metadata_len = 0;
      metadata = replicate most_metadata 0;
    });
  };
  marks = record { decided = decided; promise = no_ballot; round = no_ballot };
}

abbrev header : ℕ → List ℕ
header decided =
    seal (0xc7 ∷ 0x48 ∷ 0x00 ∷ 0x01 ∷ 0x03 ∷
    (big 4 3 ++ (big 4 decided ++ (big 4 4 ++ (big 2 0 ++ (big 2 2 ++ replicate 40 0))))))

abbrev records : List ℕ
records =
    0xc7 ∷ 0x4b ∷ 0x00 ∷ 0x00 ∷ 0x00 ∷ 0x00 ∷ 0x00 ∷ 0x00 ∷ 0x00 ∷ 0x04
    ∷ 0x00 ∷ 0x00 ∷ 0x00 ∷ 0x00 ∷ 0x00 ∷ 0x00 ∷ 0x00 ∷ 0xc8 ∷ 0x01 ∷ 0xde
    ∷ 0xc7 ∷ 0x4b ∷ 0x00 ∷ 0x00 ∷ 0x00 ∷ 0x00 ∷ 0x00 ∷ 0x00 ∷ 0x00 ∷ 0x09
    ∷ 0xff ∷ 0xff ∷ 0xff ∷ 0xff ∷ 0xff ∷ 0xff ∷ 0xff ∷ 0xff ∷ 0x09 ∷ 0x13
    ∷ 0xc7 ∷ 0x53 ∷ 0x00 ∷ 0x00 ∷ 0x00 ∷ 0x07 ∷ 0x01
    ∷ 0x00 ∷ 0x00 ∷ 0x00 ∷ 0x00 ∷ 0x00 ∷ 0x00 ∷ 0x00 ∷ 0x01 ∷ 0x00 ∷ 0x01 ∷ 0x23 ∷ []

abbrev image : ℕ → List ℕ
image decided = header decided ++ records

pub replayed_image : (image_of (replayed 4) ≡ image 4) ×
    ((length (image 4) ≡ 121) × (drop 61 (header 4) ≡ 0x01 ∷ 0x20 ∷ []))
unfolding big total packed end_of accepted_of run_bytes image_of
replayed_image = (refl, (refl, refl))

-- what each of some bytes reads as
abbrev reads : List (List ℕ) → List (Answer Log)
reads l = map (read_image 0) l

pub read_table : reads (
    image 4
    ∷ image 3
    ∷ image 2
    ∷ image 5
    ∷ take 102 (image 4)
    ∷ (image 4 ++ (0x00 ∷ []))
    ∷ (header 4 ++ (take 20 records ++ (take 20 records ++ drop 40 records)))
    ∷ (header 4 ++ (drop 20 records))
    ∷ (0xc7 ∷ 0x48 ∷ 0x00 ∷ 0x02 ∷ [])
    ∷ (0xc7 ∷ 0x48 ∷ 0x00 ∷ [])
    ∷ (0xc7 ∷ 0x4b ∷ 0x00 ∷ 0x01 ∷ [])
    ∷ [])
    ≡ replied (replayed 4)
    ∷ replied (replayed 3)
    ∷ refused 15 0
    ∷ refused 15 0
    ∷ refused 15 83
    ∷ refused 15 121
    ∷ refused 15 83
    ∷ refused 15 83
    ∷ refused 14 0
    ∷ refused 15 0
    ∷ refused 15 0
    ∷ []
unfolding big onto total packed unpacked sum_holds is_sealed first end_of accepted_of stop_decided log_decided numbers_formed laid all_of sign_formed run_bytes head_at head_formed head_sound sound_at sound_run run_end whole image_guards read_image
read_table = refl
