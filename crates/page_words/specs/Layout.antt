-- How words lie in pages and pages at nodes, and how long a simulation may be.
use Rattle.std.specs.Prelude.{ℕ, ◌+◌, ◌*◌, ◌/◌, ◌%◌}
use Rattle.page_words.specs.declared.config.Config.{Config}

-- the page that holds the word: words lie one after another, page by page
abbrev pub page_of : Config → ℕ → ℕ
page_of config word = word / config.page_words

-- the node that stores the page: pages go to the nodes in turn
abbrev pub home_of : Config → ℕ → ℕ
home_of config page = page % config.nodes

-- how many turns a simulation may take
abbrev pub turn_limit : Config → ℕ
turn_limit config = 64 * config.nodes * (config.nodes + 2) * (config.budget + 1)
