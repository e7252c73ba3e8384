-- Pages looked at one after another. `look_at_all` and `findings` cite them.
mod Pages
