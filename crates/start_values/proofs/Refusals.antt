-- Why a step of reading gives no answer is why the whole gives none.
use Rattle.std.proofs.Common.{codes, All, IsUtf8, inl, inr}
use Rattle.start_values.specs.Environment.{Known}
use Rattle.start_values.specs.Start.{IsWordsRefusal, IsFolderRefusal, IsRefusal}
use Rattle.start_values.specs.declared.refused.Refused.{Refused}
use Rattle.start_values.specs.declared.refused.Refused.TheVariants.{Words, Environment, NoMemory}

pub words_refusal : (known : Known) (refused : Refused) → IsWordsRefusal known refused → IsRefusal known refused
words_refusal known Words given = given
words_refusal known Environment given = absurd given
words_refusal known NoMemory given = given

pub etc_refusal : (known : Known) (refused : Refused) → All IsUtf8 known.words → IsFolderRefusal (known.value (codes "ACQUIRE_ETC")) refused → IsRefusal known refused
etc_refusal known Words text given = absurd given
etc_refusal known Environment text given = (text, inl given)
etc_refusal known NoMemory text given = given

pub lists_refusal : (known : Known) (refused : Refused) → All IsUtf8 known.words → IsFolderRefusal (known.value (codes "ACQUIRE_LISTS")) refused → IsRefusal known refused
lists_refusal known Words text given = absurd given
lists_refusal known Environment text given = (text, inr given)
lists_refusal known NoMemory text given = given

pub ruleset refusal = (words_refusal, etc_refusal, lists_refusal)
