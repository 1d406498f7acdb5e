-- Why a configuration is refused: what the refusals of its readers become, and their numbers and lines.
use Rattle.std.specs.Prelude.{ℕ, List, Result, Ok, Err}
use Rattle.acq_outside.specs.declared.fault.OutError.{OutError}
use Rattle.acq_outside.specs.declared.fault.OutError.TheVariants as outside
use Rattle.apt_conf.specs.declared.error.ConfError.{ConfError}
use Rattle.apt_conf.specs.declared.error.ConfError.TheVariants as conf
use Rattle.apt_conf.specs.Refusals as conf_refusals
use Rattle.source_lists.specs.declared.error.ListError.{ListError}
use Rattle.source_lists.specs.declared.error.ListError.TheVariants as list
use Rattle.source_lists.specs.Refused as list_refusals
use Rattle.target_plan.specs.declared.error.PlanError.{PlanError}
use Rattle.target_plan.specs.declared.error.PlanError.TheVariants as plan
use Rattle.configuration.specs.declared.error.ConfigurationError.{ConfigurationError}
use Rattle.configuration.specs.declared.error.ConfigurationError.TheVariants.{Conf, LongName, Clash, TooMany, Fault, NoMemory}

-- a refusal in this file of apt.conf(5); that of a value names its key
abbrev pub of_conf : List ℕ → ConfError → ConfigurationError
of_conf file (conf.BadValue key) = Conf key 21 0
of_conf file conf.NoMemory = NoMemory
of_conf file refusal = Conf file (conf_refusals.refusal_number refusal) (conf_refusals.refusal_line refusal)

-- a refusal in this sources list
abbrev pub of_list : List ℕ → ListError → ConfigurationError
of_list file list.NoMemory = NoMemory
of_list file refusal = Conf file (list_refusals.refusal_number refusal) (list_refusals.refusal_line refusal)

abbrev pub of_outside : OutError → ConfigurationError
of_outside outside.Fault = Fault
of_outside outside.NoMemory = NoMemory

abbrev pub of_plan : PlanError → ConfigurationError
of_plan (plan.LongName name) = LongName name
of_plan (plan.Clash first second) = Clash first second
of_plan plan.TooMany = TooMany
of_plan plan.NoMemory = NoMemory

abbrev pub in_conf : {A : Type 0} → List ℕ → Result A ConfError → Result A ConfigurationError
in_conf file (Ok given) = Ok given
in_conf file (Err refusal) = Err (of_conf file refusal)

abbrev pub in_list : {A : Type 0} → List ℕ → Result A ListError → Result A ConfigurationError
in_list file (Ok given) = Ok given
in_list file (Err refusal) = Err (of_list file refusal)

abbrev pub in_plan : {A : Type 0} → Result A PlanError → Result A ConfigurationError
in_plan (Ok given) = Ok given
in_plan (Err refusal) = Err (of_plan refusal)

abbrev pub refusal_number : ConfigurationError → ℕ
refusal_number (Conf file number line) = number
refusal_number (LongName name) = 36
refusal_number (Clash first second) = 22
refusal_number TooMany = 23
refusal_number Fault = 0
refusal_number NoMemory = 0

abbrev pub refusal_line : ConfigurationError → ℕ
refusal_line (Conf file number line) = line
refusal_line refusal = 0
