use Rattle.std.proofs.Common.{◌∙◌, inl, inr, map, string_bytes}
use Rattle.start_values.specs.declared.refused.Refused.TheVariants.{NoMemory}
use Rattle.start_values.specs.Start.{etc_of, lists_of}
use Rattle.acquire.proofs.Told.{named_by, place_by, refusal_by, without_memory}
use Rattle.acquire.proofs.carrying.carry_out.Goals as goal

pub returns : goal.returns
returns g c =
    let begun = c.in-Ok.ensures in
    let call = c.program_call-ran.ensures in
    inr (inr (record {
      words = c.as_slice-3.result.now;
      words_are = rw c.as_slice-3.ensures.value begun.words;
      folders_are = begun.folders;
      etc = c.in-Ok-open.outside.etc;
      etc_is = named_by _ _ _ etc_of c.in-Ok-open.ensures.etc begun.etc;
      lists = c.in-Ok-open.outside.lists;
      lists' = c.program_call-ran.new.disk;
      lists_is = named_by _ _ _ lists_of c.in-Ok-open.ensures.lists begun.lists;
      clock' = c.program_call-ran.new.clock;
      ran = c.program_call-ran.result;
      status_is = c.exit_code-2.ensures;
      refused = rw begun.untouched at call.refused;
      generated = rw begun.untouched at call.generated;
      ended = rw begun.untouched at call.ended;
      headline = rw begun.untouched at call.headline;
      input' = c.program_call-ran.new.aside.input;
      files = c.in-Ok-open_aside.aside.files;
      files' = c.program_call-ran.new.aside.files;
      speaks = rw (begun.untouched, c.in-Ok-open_aside.ensures.input) at call.speaks;
      port = c.in-Ok-open_aside.aside.port;
      port' = c.program_call-ran.new.aside.port;
      tree = c.in-Ok-open_aside.aside.tree;
      tree' = c.program_call-ran.new.aside.tree;
      serves = rw begun.untouched at call.serves;
      place = c.in-Ok-open_aside.aside.place;
      place' = c.program_call-ran.new.aside.place;
      place_is = rw c.as_slice-3.ensures.value (place_by _ _ _ (map string_bytes c.in-Ok.start.words.items) (c.in-Ok-open_aside.ensures.place ∙ c.as_str.ensures.value) (rw c.as_slice.ensures.value at c.in-Ok-place_for.ensures.place));
      downloads = rw begun.untouched at call.downloads;
    }))

pub returns-in-Err-place_for : goal.returns-in-Err-place_for
returns-in-Err-place_for g c =
    let begun = c.in-Ok.ensures in
    rw c.exit_code-in-Err-place_for.ensures
    (inr (inl (c.in-Err-place_for.refused, refusal_by _ (map string_bytes c.in-Ok.start.words.items) c.in-Err-place_for.refused begun.words (rw c.as_slice.ensures.value at c.in-Err-place_for.ensures.refused), rw begun.untouched at c.write_refusal-in-Err-place_for.ensures.told)))

pub returns-in_default-open_aside : goal.returns-in_default-open_aside
returns-in_default-open_aside g c =
    let begun = c.in-Ok.ensures in
    rw c.exit_code-in_default-open_aside.ensures
    (inl (NoMemory, without_memory _, rw begun.untouched at c.write_refusal-in_default-open_aside.ensures.told))
