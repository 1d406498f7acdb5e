-- A stream's pieces taken one after another, and how serving its input ends.
use Rattle.std.proofs.Common.{◌≡◌, ◌⊎◌, inl, inr, refl, sym, ap, subst, ◌∙◌, ℕ, ◌+◌, ◌≤◌, Bool, List, [], ◌∷◌, ◌++◌, length, length-append, take, min, append_assoc, append-nil, Option, Some, None, option_map, Result, Err, arith}
use Rattle.std.proofs.lemmas.List.{take_all, take_at}
use Rattle.acq_base.specs.Mirror.{MirrorMap}
use Rattle.acq_outside.specs.Count.{Rose}
use Rattle.acq_outside.specs.Inlet.{Gave, IsSpent}
use Rattle.acq_outside.specs.Sink.{Wrote, WrotePart}
use Rattle.method_messages.specs.declared.message.Message.{Message}
use Rattle.method_messages.specs.declared.error.MessageError.{MessageError}
use Rattle.method_messages.specs.declared.error.MessageError.TheVariants.{BadMessage, TooLong, NoMemory}
use Rattle.method_messages.specs.Refused.{IsRefused}
use Rattle.method_messages.specs.Streams.{Unended, Reads, begun_at}
use Rattle.method_server.specs.Answers.{capabilities, general_failure}
use Rattle.method_server.specs.Turns.{Moment, Answers}
use Rattle.method_server.specs.Input.{Input, Ended, Refused, IsRefusedBehind}
use Rattle.method_server.specs.Serving.{EndsBy, IsRead, SaidBy, Scene, Served, Serves, last_text, most_input, text_so_far}
use Rattle.method_server.specs.Taking.{Answered, ClosesBy, FailsBy, Halts, IsCut, SoFar, TakesBad, TakesBy, TakesFront, TakesPart, end_of_stop}
use Rattle.method_server.specs.declared.end.ServeEnd.{ServeEnd}
use Rattle.method_server.specs.declared.end.ServeEnd.TheVariants as ends
use Rattle.method_server.specs.declared.end.Stop.{Stop}
use Rattle.method_server.specs.declared.end.Stop.TheVariants as stops
use Rattle.method_server.proofs.Answering.{answered_append, answered_none, answers_append, halts_none, halts_within, part_more, touches_more, wrote_more}
use Rattle.method_server.proofs.Completing.{begins_text, take_front}
use Rattle.method_server.proofs.Naming.{serves_apart, serves_stays}
use Rattle.method_server.proofs.Readings.{every_input, fault_place, nothing_read, refused_by, refused_more}

-- ---- a line

-- all that ended with the line is answered
pub line_taken : (world : Option MirrorMap) (http : Bool) (stream : List ℕ) (messages more : List Message) (line : List ℕ) (reader : Unended) (old new : Moment) (a b : Option (List ℕ))
    → Reads (stream ++ line) (messages ++ more) reader → Answered world http more old new a b → TakesFront world http stream messages line [] reader old new a b
line_taken world http stream messages more line reader old new a b reads answered =
    record { taken = line; split = sym (append-nil line); more = more; reads = reads; answered = answered }

pub line_halts : (world : Option MirrorMap) (http : Bool) (stream : List ℕ) (messages more : List Message) (line : List ℕ) (reader : Unended) (old new : Moment) (a b : Option (List ℕ))
    → Reads (stream ++ line) (messages ++ more) reader → Halts world http more old new a b → TakesPart world http stream messages line old new a b
line_halts world http stream messages more line reader old new a b reads halts =
    record { taken = line; rest = []; split = sym (append-nil line); more = more; reader = reader; reads = reads; halts = halts }

no_more : (stream : List ℕ) (messages : List Message) (reader : Unended) → Reads stream messages reader → Reads (stream ++ []) (messages ++ []) reader
no_more stream messages reader reads =
    subst (λ (t : List ℕ). Reads t (messages ++ []) reader) (sym (append-nil stream)) (subst (λ (ms : List Message). Reads stream ms reader) (sym (append-nil messages)) reads)

-- the line isn't read for want of memory
pub line_unread : (world : Option MirrorMap) (http : Bool) (stream : List ℕ) (messages : List Message) (line : List ℕ) (reader : Unended) (moment : Moment) (written : Option (List ℕ))
    → Reads stream messages reader → TakesPart world http stream messages line moment moment written written
line_unread world http stream messages line reader moment written reads =
    record { taken = []; rest = line; split = refl; more = []; reader = reader; reads = no_more stream messages reader reads; halts = halts_none world http [] moment written }

pub line_refused : (world : Option MirrorMap) (http : Bool) (stream : List ℕ) (messages : List Message) (line : List ℕ) (reader : Unended) (fault : MessageError) (moment : Moment) (written : Option (List ℕ))
    → IsCut line → Reads stream messages reader → IsRefused (stream ++ line) fault → TakesBad world http stream messages line (fault_place fault) moment moment written written
line_refused world http stream messages line reader fault moment written cut reads refused = record {
  more = [];
  refused = subst (λ (ms : List Message). IsRefusedBehind (stream ++ line) ms (fault_place fault)) (sym (append-nil messages)) (refused_by stream line messages reader fault cut reads refused);
  answered = answered_none world http moment written;
}

-- ---- a piece

pub none_taken : (world : Option MirrorMap) (http : Bool) (stream : List ℕ) (messages : List Message) (piece : List ℕ) (reader : Unended) (moment : Moment) (written : Option (List ℕ))
    → Reads stream messages reader → TakesFront world http stream messages piece piece reader moment moment written written
none_taken world http stream messages piece reader moment written reads =
    record { taken = []; split = refl; more = []; reads = no_more stream messages reader reads; answered = answered_none world http moment written }

split_on : (piece taken rest line behind : List ℕ) → piece ≡ taken ++ rest → line ++ behind ≡ rest → piece ≡ (taken ++ line) ++ behind
split_on piece taken rest line behind split cut = split ∙ ap (λ (t : List ℕ). taken ++ t) (sym cut) ∙ sym (append_assoc taken line behind)

-- one line more
pub more_taken : (world : Option MirrorMap) (http : Bool) (stream : List ℕ) (messages : List Message) (piece rest line behind : List ℕ) (reader later : Unended) (old mid new : Moment) (a b c : Option (List ℕ))
    → line ++ behind ≡ rest → (h : TakesFront world http stream messages piece rest reader old mid a b)
    → TakesFront world http (stream ++ h.taken) (messages ++ h.more) line [] later mid new b c → TakesFront world http stream messages piece behind later old new a c
more_taken world http stream messages piece rest line behind reader later old mid new a b c cut h k =
    let whole : line ≡ k.taken = k.split ∙ append-nil k.taken in
    record {
      taken = h.taken ++ line;
      split = split_on piece h.taken rest line behind h.split cut;
      more = h.more ++ k.more;
      reads = subst (λ (t : List ℕ). Reads t (messages ++ (h.more ++ k.more)) later) (append_assoc stream h.taken line)
          (subst (λ (t : List ℕ). Reads ((stream ++ h.taken) ++ t) (messages ++ (h.more ++ k.more)) later) (sym whole)
          (subst (λ (ms : List Message). Reads ((stream ++ h.taken) ++ k.taken) ms later) (append_assoc messages h.more k.more) k.reads));
      answered = answered_append world http h.more k.more old mid new a b c h.answered k.answered;
    }

piece_on : (stream taken line behind piece : List ℕ) → piece ≡ (taken ++ line) ++ behind → ((stream ++ taken) ++ line) ++ behind ≡ stream ++ piece
piece_on stream taken line behind piece split = regrouped ∙ ap (λ (t : List ℕ). stream ++ t) (sym split)
  where
    regrouped : ((stream ++ taken) ++ line) ++ behind ≡ stream ++ ((taken ++ line) ++ behind)
    regrouped = simp append_assoc

pub bad_taken : (world : Option MirrorMap) (http : Bool) (stream : List ℕ) (messages : List Message) (piece rest line behind : List ℕ) (reader : Unended) (at : ℕ) (old mid new : Moment) (a b c : Option (List ℕ))
    → line ++ behind ≡ rest → (h : TakesFront world http stream messages piece rest reader old mid a b)
    → TakesBad world http (stream ++ h.taken) (messages ++ h.more) line at mid new b c → TakesBad world http stream messages piece at old new a c
bad_taken world http stream messages piece rest line behind reader at old mid new a b c cut h k = record {
  more = h.more ++ k.more;
  refused = subst (λ (t : List ℕ). IsRefusedBehind t (messages ++ (h.more ++ k.more)) at) (piece_on stream h.taken line behind piece (split_on piece h.taken rest line behind h.split cut))
      (refused_more ((stream ++ h.taken) ++ line) behind (messages ++ (h.more ++ k.more)) at
      (subst (λ (ms : List Message). IsRefusedBehind ((stream ++ h.taken) ++ line) ms at) (append_assoc messages h.more k.more) k.refused));
  answered = answered_append world http h.more k.more old mid new a b c h.answered k.answered;
}

pub part_taken : (world : Option MirrorMap) (http : Bool) (stream : List ℕ) (messages : List Message) (piece rest line behind : List ℕ) (reader : Unended) (old mid new : Moment) (a b c : Option (List ℕ))
    → line ++ behind ≡ rest → (h : TakesFront world http stream messages piece rest reader old mid a b)
    → TakesPart world http (stream ++ h.taken) (messages ++ h.more) line mid new b c → TakesPart world http stream messages piece old new a c
part_taken world http stream messages piece rest line behind reader old mid new a b c cut h k = record {
  taken = h.taken ++ k.taken;
  rest = k.rest ++ behind;
  split = split_on piece h.taken rest line behind h.split cut ∙ ap (λ (t : List ℕ). (h.taken ++ t) ++ behind) k.split ∙ regrouped h.taken k.taken k.rest behind;
  more = h.more ++ k.more;
  reader = k.reader;
  reads = subst (λ (t : List ℕ). Reads t (messages ++ (h.more ++ k.more)) k.reader) (append_assoc stream h.taken k.taken)
      (subst (λ (ms : List Message). Reads ((stream ++ h.taken) ++ k.taken) ms k.reader) (append_assoc messages h.more k.more) k.reads);
  halts = halts_within world http h.more k.more [] (h.more ++ k.more) old mid new a b c (ap (λ (ms : List Message). h.more ++ ms) (sym (append-nil k.more))) h.answered k.halts;
}
  where
    regrouped : (w x y z : List ℕ) → (w ++ (x ++ y)) ++ z ≡ (w ++ x) ++ (y ++ z)
    regrouped w x y z = simp append_assoc

-- a whole piece
pub piece_taken : (world : Option MirrorMap) (http : Bool) (stream : List ℕ) (messages : List Message) (piece rest : List ℕ) (reader : Unended) (old new : Moment) (a b : Option (List ℕ))
    → rest ≡ [] → TakesFront world http stream messages piece rest reader old new a b → TakesFront world http stream messages piece [] reader old new a b
piece_taken world http stream messages piece rest reader old new a b none h = subst (λ (r : List ℕ). TakesFront world http stream messages piece r reader old new a b) none h

-- ---- the input

pub gave_none : (left : Option (List ℕ)) → Gave left [] left
gave_none None = refl
gave_none (Some rest) = refl

pub gave_more : (a b c : Option (List ℕ)) (bytes more : List ℕ) → Gave a bytes b → Gave b more c → Gave a (bytes ++ more) c
gave_more a b None bytes more first later = first ∙ ap (option_map (λ rest. bytes ++ rest)) later
gave_more a b (Some rest) bytes more first later = first ∙ ap (option_map (λ r. bytes ++ r)) later ∙ ap (λ (t : List ℕ). Some t) (sym (append_assoc bytes more rest))

-- where none is left before a read that gives none, none is left behind it
pub spent_on : (before after : Option (List ℕ)) (bytes : List ℕ) → bytes ≡ [] → Gave before bytes after → IsSpent before → IsSpent after
spent_on before after bytes none gave spent = by_left before after (gave ∙ ap (λ (t : List ℕ). option_map (λ rest. t ++ rest) after) none) spent
  where
    by_left : (b a : Option (List ℕ)) → b ≡ option_map (λ rest. [] ++ rest) a → IsSpent b → IsSpent a
    by_left b None e s = tt
    by_left b (Some rest) e s = let P : Option (List ℕ) → Type 0 = λ o. IsSpent o in subst P e s

-- ---- how it goes on

pub so_far_first : (world : Option MirrorMap) (http : Bool) (old new : Scene) (reader : Unended) → new.left ≡ old.left → new.ends ≡ old.ends → new.at ≡ old.at → Wrote old.written capabilities new.written → Reads [] [] reader
    → SoFar world http old new reader 0
so_far_first world http old new reader left still same wrote reads = record {
  bytes = [];
  long = refl;
  read = subst (λ (l : Option (List ℕ)). Gave old.left [] l) (sym left) (gave_none old.left);
  still = still;
  messages = [];
  reads = reads;
  text = [];
  are = (refl, same);
  wrote = subst (λ (t : List ℕ). Wrote old.written t new.written) (sym (append-nil capabilities)) wrote;
}

behind_capabilities : (a b c : Option (List ℕ)) (text more : List ℕ) → Wrote a (capabilities ++ text) b → Wrote b more c → Wrote a (capabilities ++ (text ++ more)) c
behind_capabilities a b c text more first later = subst (λ (t : List ℕ). Wrote a t c) (append_assoc capabilities text more) (wrote_more a b c (capabilities ++ text) more first later)

pub so_far_more : (world : Option MirrorMap) (http : Bool) (old mid new : Scene) (reader later : Unended) (size n : ℕ) (piece : List ℕ) → (h : SoFar world http old mid reader size)
    → n ≡ length piece → Gave mid.left piece new.left → new.ends ≡ mid.ends → TakesFront world http h.bytes h.messages piece [] later mid.at new.at mid.written new.written
    → SoFar world http old new later (size + n)
so_far_more world http old mid new reader later size n piece h long gave still k =
    let whole : piece ≡ k.taken = k.split ∙ append-nil k.taken in
    record {
      bytes = h.bytes ++ piece;
      long = omega (arith, long, h.long, length-append h.bytes piece);
      read = gave_more old.left mid.left new.left h.bytes piece h.read gave;
      still = still ∙ h.still;
      messages = h.messages ++ k.more;
      reads = subst (λ (t : List ℕ). Reads (h.bytes ++ t) (h.messages ++ k.more) later) (sym whole) k.reads;
      text = h.text ++ k.answered.text;
      are = answers_append world http old.at mid.at new.at h.messages k.more h.text k.answered.text h.are k.answered.are;
      wrote = behind_capabilities old.written mid.written new.written h.text k.answered.text h.wrote k.answered.wrote;
    }

-- ---- how it ends

ends_with : (world : Option MirrorMap) (http : Bool) (old new : Scene) (end : ServeEnd) (bytes text : List ℕ) → Gave old.left bytes new.left → Wrote old.written text new.written → length bytes ≤ most_input
    → (serves : Serves world http old.at new.at bytes text) → SaidBy serves.answers serves.later text end → EndsBy world http old new bytes text end → Served world http old new end
ends_with world http old new end bytes text read wrote few serves said ended = record {
  bytes = bytes;
  text = text;
  read = read;
  wrote = wrote;
  few = few;
  serves = serves;
  said = said;
  untouched = serves_apart world http old.at new.at bytes text serves;
  stays = serves_stays world http old.at new.at bytes text serves;
  begins = begins_text world http old.at new.at bytes text serves;
  ends = ended;
}

-- all of the input's messages are answered
abbrev serves_all : (world : Option MirrorMap) (http : Bool) (old new : Moment) (bytes text answers : List ℕ) (messages : List Message) (broken : Option ℕ) (n : ℕ) → Input bytes messages broken
    → Answers world http old messages answers new → text ≡ take n ((capabilities ++ answers) ++ last_text broken) → Serves world http old new bytes text
serves_all world http old new bytes text answers messages broken n input are front = record {
  handled = messages;
  answers = answers;
  mid = new;
  are = are;
  later = [];
  broken = broken;
  input = subst (λ (ms : List Message). Input bytes ms broken) (sym (append-nil messages)) input;
  last = refl;
  n = n;
  front = front;
}

whole_front : (text last : List ℕ) → text ≡ take (length text) (text ++ last)
whole_front text last = sym (take_at text last (length text) refl)

-- where nothing but the end is told
pub ends_here : (world : Option MirrorMap) (http : Bool) (old mid new : Scene) (reader : Unended) (size : ℕ) (end : ServeEnd) → size ≤ most_input → (h : SoFar world http old mid reader size)
    → new.left ≡ mid.left → new.at ≡ mid.at → new.written ≡ mid.written → SaidBy h.text [] (capabilities ++ h.text) end → EndsBy world http old new h.bytes (capabilities ++ h.text) end → Served world http old new end
ends_here world http old mid new reader size end few h left same written said ended =
    ends_with world http old new end h.bytes (capabilities ++ h.text)
    (subst (λ (l : Option (List ℕ)). Gave old.left h.bytes l) (sym left) h.read)
    (written ∙ h.wrote)
    (omega (arith, few, h.long))
    (serves_all world http old.at new.at h.bytes (capabilities ++ h.text) h.text h.messages (begun_at reader) (length (capabilities ++ h.text)) (Ended reader h.reads refl)
    (subst (λ (m : Moment). Answers world http old.at h.messages h.text m) (sym same) h.are)
    (whole_front (capabilities ++ h.text) (last_text (begun_at reader))))
    said ended

pub input_failed : (world : Option MirrorMap) (http : Bool) (old mid new : Scene) (reader : Unended) (size : ℕ) → size ≤ most_input → SoFar world http old mid reader size
    → new.left ≡ mid.left → new.at ≡ mid.at → new.written ≡ mid.written → Served world http old new ends.Input
input_failed world http old mid new reader size few h left same written = ends_here world http old mid new reader size ends.Input few h left same written (refl, refl) tt

pub all_read : (world : Option MirrorMap) (http : Bool) (old new : Scene) (reader : Unended) (size : ℕ) → size ≡ most_input → SoFar world http old new reader size → Served world http old new ends.Full
all_read world http old new reader size full h = ends_here world http old new new reader size ends.Full (omega (arith, full)) h refl refl refl (refl, refl) (sym h.long ∙ full, h.still)

-- where the last message is said, or can't be
fails : (world : Option MirrorMap) (http : Bool) (old new : Scene) (bytes text : List ℕ) (messages : List Message) (written : Option (List ℕ)) (at : ℕ) (end : ServeEnd) → Gave old.left bytes new.left
    → length bytes ≤ most_input → Input bytes messages (Some at) → Answers world http old.at messages text new.at → Wrote old.written (capabilities ++ text) written
    → ((ms : List Message) × IsRefusedBehind bytes ms at) ⊎ IsRead old new → FailsBy at written new.written end → Served world http old new end
fails world http old new bytes text messages written at ends.Broken read few input are wrote why said =
    let whole : List ℕ = (capabilities ++ text) ++ general_failure at in
    ends_with world http old new ends.Broken bytes ((capabilities ++ text) ++ general_failure at) read
    (wrote_more old.written written new.written (capabilities ++ text) (general_failure at) wrote said) few
    (serves_all world http old.at new.at bytes ((capabilities ++ text) ++ general_failure at) text messages (Some at) (length ((capabilities ++ text) ++ general_failure at)) input are
    (sym (take_all (length ((capabilities ++ text) ++ general_failure at)) ((capabilities ++ text) ++ general_failure at) (omega arith))))
    tt (at, record { messages = messages; input = input; answers = text; are = are; text_is = refl }, why)
fails world http old new bytes text messages written at ends.Output read few input are wrote why said =
    let (k, part) = part_more old.written written new.written (capabilities ++ text) (general_failure at) wrote said in
    ends_with world http old new ends.Output bytes (take k ((capabilities ++ text) ++ general_failure at)) read part few
    (serves_all world http old.at new.at bytes (take k ((capabilities ++ text) ++ general_failure at)) text messages (Some at) k input are refl)
    tt tt
fails world http old new bytes text messages written at ends.Memory read few input are wrote why said =
    ends_with world http old new ends.Memory bytes (capabilities ++ text) read (said ∙ wrote) few
    (serves_all world http old.at new.at bytes (capabilities ++ text) text messages (Some at) (length (capabilities ++ text)) input are (whole_front (capabilities ++ text) (general_failure at)))
    (length (capabilities ++ text), sym (take_all (length (capabilities ++ text)) (capabilities ++ text) (omega arith))) tt
fails world http old new bytes text messages written at ends.Whole read few input are wrote why said = absurd said
fails world http old new bytes text messages written at ends.Files read few input are wrote why said = absurd said
fails world http old new bytes text messages written at ends.Input read few input are wrote why said = absurd said
fails world http old new bytes text messages written at ends.Full read few input are wrote why said = absurd said

-- at the end of the input
pub closed : (world : Option MirrorMap) (http : Bool) (old mid new : Scene) (reader : Unended) (size : ℕ) (end : ServeEnd) → size ≤ most_input → SoFar world http old mid reader size
    → new.left ≡ mid.left → Rose mid.ends new.ends → IsSpent new.left → new.at ≡ mid.at → ClosesBy (begun_at reader) mid.written new.written end → Served world http old new end
closed world http old mid new reader size end few h left rose spent same closes = by_rest (begun_at reader) refl closes
  where
    read : IsRead old new
    read = record { ended = subst (λ n. Rose n new.ends) h.still rose; spent = spent }

    are : Answers world http old.at h.messages h.text new.at
    are = subst (λ (m : Moment). Answers world http old.at h.messages h.text m) (sym same) h.are

    by_rest : (rest : Option ℕ) → begun_at reader ≡ rest → ClosesBy rest mid.written new.written end → Served world http old new end
    by_rest None is (whole, written) =
        subst (λ (e : ServeEnd). Served world http old new e) (sym whole)
        (ends_here world http old mid new reader size ends.Whole few h left same written (refl, refl)
        (record { messages = h.messages; input = Ended reader h.reads is; answers = h.text; are = are; text_is = sym (append-nil (capabilities ++ h.text)) }, read))
    by_rest (Some at) is said =
        fails world http old new h.bytes h.text h.messages mid.written at end (subst (λ (l : Option (List ℕ)). Gave old.left h.bytes l) (sym left) h.read)
        (omega (arith, few, h.long)) (Ended reader h.reads is) are h.wrote (inr read) said

-- where the stream is refused
pub refused : (world : Option MirrorMap) (http : Bool) (old mid new : Scene) (reader : Unended) (size : ℕ) (piece : List ℕ) (at : ℕ) (written : Option (List ℕ)) (end : ServeEnd) → size + length piece ≤ most_input
    → (h : SoFar world http old mid reader size) → Gave mid.left piece new.left → TakesBad world http h.bytes h.messages piece at mid.at new.at mid.written written
    → FailsBy at written new.written end → Served world http old new end
refused world http old mid new reader size piece at written end few h gave k said =
    fails world http old new (h.bytes ++ piece) (h.text ++ k.answered.text) (h.messages ++ k.more) written at end
    (gave_more old.left mid.left new.left h.bytes piece h.read gave)
    (omega (arith, few, h.long, length-append h.bytes piece))
    (Refused at k.refused refl)
    (answers_append world http old.at mid.at new.at h.messages k.more h.text k.answered.text h.are k.answered.are)
    (behind_capabilities old.written mid.written written h.text k.answered.text h.wrote k.answered.wrote)
    (inl (h.messages ++ k.more, k.refused))
    said

-- where an answer could not be given
front_so_far : (answers : List ℕ) (later : List Message) (broken : Option ℕ) (n : ℕ) → (k : ℕ) × (take n (capabilities ++ answers) ≡ take k (text_so_far answers later broken))
front_so_far answers [] broken n = (min n (length (capabilities ++ answers)), take_front (capabilities ++ answers) (last_text broken) n)
front_so_far answers (message ∷ later) broken n = (n, refl)

said_stop : (answers text : List ℕ) (later : List Message) (stop : Stop) (n : ℕ) → text ≡ take n (capabilities ++ answers) → SaidBy answers later text (end_of_stop stop)
said_stop answers text later stops.Files n front = (n, front)
said_stop answers text later stops.Memory n front = (n, front)
said_stop answers text later stops.Output n front = tt

any_stop : (world : Option MirrorMap) (http : Bool) (old new : Scene) (bytes text : List ℕ) (stop : Stop) → EndsBy world http old new bytes text (end_of_stop stop)
any_stop world http old new bytes text stops.Files = tt
any_stop world http old new bytes text stops.Memory = tt
any_stop world http old new bytes text stops.Output = tt

pub stopped : (world : Option MirrorMap) (http : Bool) (old mid new : Scene) (reader : Unended) (size : ℕ) (piece : List ℕ) (stop : Stop) → size + length piece ≤ most_input
    → (h : SoFar world http old mid reader size) → Gave mid.left piece new.left → TakesPart world http h.bytes h.messages piece mid.at new.at mid.written new.written
    → Served world http old new (end_of_stop stop)
stopped world http old mid new reader size piece stop few h gave k =
    let (more, broken, input) = every_input k.rest (h.bytes ++ k.taken) (h.messages ++ k.more) k.reader k.reads in
    let (n, part) = part_more old.written mid.written new.written (capabilities ++ h.text) k.halts.text h.wrote k.halts.part in
    let (m, front) = front_so_far (h.text ++ k.halts.text) (k.halts.later ++ more) broken n in
    let text : List ℕ = take n ((capabilities ++ h.text) ++ k.halts.text) in
    ends_with world http old new (end_of_stop stop) (h.bytes ++ piece) (take n ((capabilities ++ h.text) ++ k.halts.text))
    (gave_more old.left mid.left new.left h.bytes piece h.read gave)
    part
    (omega (arith, few, h.long, length-append h.bytes piece))
    record {
      handled = h.messages ++ k.halts.handled;
      answers = h.text ++ k.halts.text;
      mid = k.halts.mid;
      are = answers_append world http old.at mid.at k.halts.mid h.messages k.halts.handled h.text k.halts.text h.are k.halts.are;
      later = k.halts.later ++ more;
      broken = broken;
      input = subst (λ (t : List ℕ). Input t ((h.messages ++ k.halts.handled) ++ (k.halts.later ++ more)) broken) (append_assoc h.bytes k.taken k.rest ∙ ap (λ (t : List ℕ). h.bytes ++ t) (sym k.split))
          (subst (λ (ms : List Message). Input ((h.bytes ++ k.taken) ++ k.rest) ms broken)
          (ap (λ (ms : List Message). (h.messages ++ ms) ++ more) k.halts.split ∙ regrouped h.messages k.halts.handled k.halts.later more) input);
      last = touches_more http k.halts.later more k.halts.mid new.at k.halts.last;
      n = m;
      front = ap (take n) (append_assoc capabilities h.text k.halts.text) ∙ front;
    }
    (said_stop (h.text ++ k.halts.text) (take n ((capabilities ++ h.text) ++ k.halts.text)) (k.halts.later ++ more) stop n (ap (take n) (append_assoc capabilities h.text k.halts.text)))
    (any_stop world http old new (h.bytes ++ piece) (take n ((capabilities ++ h.text) ++ k.halts.text)) stop)
  where
    regrouped : (w x y z : List Message) → (w ++ (x ++ y)) ++ z ≡ (w ++ x) ++ (y ++ z)
    regrouped w x y z = simp append_assoc

-- where not even the first message could be said
pub silent : (world : Option MirrorMap) (http : Bool) (old new : Scene) → new.left ≡ old.left → new.at ≡ old.at → WrotePart old.written capabilities new.written → Served world http old new ends.Output
silent world http old new left same (n, part) =
    ends_with world http old new ends.Output [] (take n capabilities)
    (subst (λ (l : Option (List ℕ)). Gave old.left [] l) (sym left) (gave_none old.left))
    part
    (omega arith)
    (serves_all world http old.at new.at [] (take n capabilities) [] [] None n (Ended (record { begins = 0; bytes = [] }) nothing_read refl) (refl, same)
    (ap (take n) (sym (append-nil capabilities) ∙ sym (append-nil (capabilities ++ [])))))
    tt tt

-- a read that gave none left what was there
pub gave_nothing : (before after : Option (List ℕ)) (bytes : List ℕ) → bytes ≡ [] → Gave before bytes after → after ≡ before
gave_nothing before None bytes none gave = sym gave
gave_nothing before (Some rest) bytes none gave = sym (gave ∙ ap (λ (t : List ℕ). Some (t ++ rest)) none)

-- ---- for calls

pub takes_as : (world : Option MirrorMap) (http : Bool) (stream : List ℕ) (messages : List Message) (piece : List ℕ) (reader : Unended) (old new : Moment) (a b : Option (List ℕ)) (result : Result (Option ℕ) Stop) (stop : Stop)
    → result ≡ Err stop → TakesPart world http stream messages piece old new a b → TakesBy world http stream messages piece reader old new a b result
takes_as world http stream messages piece reader old new a b result stop is part = subst (λ (r : Result (Option ℕ) Stop). TakesBy world http stream messages piece reader old new a b r) (sym is) part

pub only_bad : (stream : List ℕ) (fault : MessageError) (at : ℕ) → fault ≡ BadMessage at → (fault ≡ NoMemory) ⊎ IsRefused stream fault → IsRefused stream (BadMessage at)
only_bad stream fault at is (inl none) = let clash : BadMessage at ≡ NoMemory = sym is ∙ none in absurd cc
only_bad stream fault at is (inr told) = subst (λ (f : MessageError). IsRefused stream f) is told

pub only_long : (stream : List ℕ) (fault : MessageError) (at : ℕ) → fault ≡ TooLong at → (fault ≡ NoMemory) ⊎ IsRefused stream fault → IsRefused stream (TooLong at)
only_long stream fault at is (inl none) = let clash : TooLong at ≡ NoMemory = sym is ∙ none in absurd cc
only_long stream fault at is (inr told) = subst (λ (f : MessageError). IsRefused stream f) is told
